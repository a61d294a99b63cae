-- What the Rust reads of its code is what the rules read of it; past the code's end it panics.
use Rattle.std.specs.Prelude.{if◌then◌else◌}
use mathlib.Core.Path.{◌≡◌, refl, ap, subst, sym, ◌∙◌}
use mathlib.Core.Bool.{Bool, true, false}
use mathlib.Core.List.{List, [], ◌∷◌, map}
use mathlib.Core.Logic.{⊎_elim}
use mathlib.Core.Option.{none, some}
use Prim.Native.Nat.{ℕ, zero, suc, ◌+◌, ◌*◌, ◌≤◌, ◌<◌}
use native.Mathlib.Omega.{arith}
use borrow.Author.Tests.{leb-true, leb-false}
use lib.Dec.{leb}
use lib.ListN.{length, get_or, length-map, get_or-map}
use Rattle.model.specs.declared.Op.{Op}
use Rattle.model.specs.declared.Fault.TheVariants as f
use Rattle.model.specs.Heap.{heap_ok}
use Rattle.model.specs.Programs.{Function, function_at, word_at}
use Rattle.model.specs.Steps.{World, State, Outcome, faulted, paid, at, position, code_of, exec_of, operands_then}
use Rattle.model.specs.Runs.{over}
use Rattle.cells.proofs.Order.{by_less}
use Rattle.laws_runs.specs.Sane.{AllPlaced, LastPlaced, Sane}
use Rattle.laws_rust.specs.Vm as rust
use Rattle.laws_rust.specs.Vm.{arm, Vm, Chunk, Did, panic, index, current_frame, move_ip, read_byte, read_u16, is_at_the_end, at_end_of, past}
use Rattle.laws_rust.specs.Same.{chunk_of, rust_of, rust_at, Panics, FaultsAs, Agrees}

-- what these laws ask of a state in good order: its values are placed, and its function is one
pub record Orderly (w : World) (s : State) : Type 0 where
  pub heap : heap_ok (length w.text) s.heap ≡ true
  pub placed : AllPlaced (length w.text) s.heap s.stack
  pub last : LastPlaced (length w.text) s.heap s.last
  pub known : s.frame.function < length w.functions

pub sane_orderly : {w : World} {s : State} → Sane w s → Orderly w s
sane_orderly h = record { heap = h.heap; placed = h.placed; last = h.last; known = h.frame.known }

-- the position and the units do not matter
pub orderly_at : {w : World} {s : State} (i : ℕ) → Orderly w s → Orderly w (at i s)
orderly_at i h = record { heap = h.heap; placed = h.placed; last = h.last; known = h.known }

pub orderly_paid : {w : World} {s : State} (k : ℕ) → Orderly w s → Orderly w (paid k s)
orderly_paid k h = record { heap = h.heap; placed = h.placed; last = h.last; known = h.known }

-- ---- an index

pub index_there : {A : Type 0} (xs : List A) (i : ℕ) (d : A) (k : A → Did) → i < length xs → index xs i k ≡ k (get_or xs i d)
unfolding index
index_there [] i d k h = absurd (let z : ⊥ = omega arith in z)
index_there (x ∷ xs) zero d k h = refl
index_there (x ∷ xs) (suc i) d k h = index_there xs i d k (omega arith)

pub index_past : {A : Type 0} (xs : List A) (i : ℕ) (k : A → Did) → length xs ≤ i → index xs i k ≡ panic
unfolding index
index_past [] i k h = refl
index_past (x ∷ xs) zero k h = absurd (let z : ⊥ = omega arith in z)
index_past (x ∷ xs) (suc i) k h = index_past xs i k (omega arith)

chunk_there : (fs : List Function) (i : ℕ) (k : Chunk → Did) → i < length fs → index (map chunk_of fs) i k ≡ k (chunk_of (function_at fs i))
unfolding function_at
chunk_there fs i k h =
    index_there (map chunk_of fs) i _ k (let z = length-map fs chunk_of in omega arith) ∙ ap k (get_or-map chunk_of fs i _)

-- ---- a byte, and a word of two

module _ (w : World) (s : State) (known : s.frame.function < length w.functions) (k : ℕ → Vm → Did) where
  read_byte_is : read_byte (rust_at w s) k ≡ index (code_of w s) (position s) (λ byte. k byte (rust_at w (at (position s + 1) s)))
  unfolding read_byte current_frame move_ip rust_of code_of
  read_byte_is = chunk_there w.functions s.frame.function _ known

  pub byte_there : position s < length (code_of w s) → read_byte (rust_at w s) k ≡ k (get_or (code_of w s) (position s) 0) (rust_at w (at (suc (position s)) s))
  byte_there h =
      let one : position s + 1 ≡ suc (position s) = omega arith in
      read_byte_is ∙ index_there (code_of w s) (position s) 0 _ h ∙ ap (λ (i : ℕ). k (get_or (code_of w s) (position s) 0) (rust_at w (at i s))) one

  byte_past : length (code_of w s) ≤ position s → read_byte (rust_at w s) k ≡ panic
  byte_past h = read_byte_is ∙ index_past (code_of w s) (position s) _ h

module _ (w : World) (s : State) (known : s.frame.function < length w.functions) (k : ℕ → Vm → Did) where
  pub word_there : position s + 2 ≤ length (code_of w s) → read_u16 (rust_at w s) k ≡ k (word_at (code_of w s) (position s)) (rust_at w (at (position s + 2) s))
  unfolding read_u16 word_at code_of
  word_there h =
      let two : suc (suc (position s)) ≡ position s + 2 = omega arith in
      byte_there w s known _ (omega arith)
      ∙ byte_there w (at (suc (position s)) s) known _ (omega arith)
      ∙ ap (λ (i : ℕ). k (word_at (code_of w s) (position s)) (rust_at w (at i s))) two

  pub word_past : length (code_of w s) < position s + 2 → read_u16 (rust_at w s) k ≡ panic
  unfolding read_u16 code_of
  word_past h =
      ⊎_elim
      (λ l. byte_there w s known _ l ∙ byte_past w (at (suc (position s)) s) known _ (omega arith))
      (λ g. byte_past w s known _ g)
      (by_less (position s) (length (code_of w s)))

-- ---- the loop's test

past_there : (fs : List Function) (i ip : ℕ) → i < length fs → past i ip (map chunk_of fs) ≡ some (leb (length (function_at fs i).code) ip)
unfolding past function_at
past_there [] i ip h = absurd (let z : ⊥ = omega arith in z)
past_there (f ∷ fs) zero ip h = refl
past_there (f ∷ fs) (suc i) ip h = past_there fs i ip (omega arith)

pub past_none : (fs : List Function) (i ip : ℕ) → length fs ≤ i → past i ip (map chunk_of fs) ≡ none
unfolding past
past_none [] i ip h = refl
past_none (f ∷ fs) zero ip h = absurd (let z : ⊥ = omega arith in z)
past_none (f ∷ fs) (suc i) ip h = past_none fs i ip (omega arith)

-- the Rust is at the end where the rules' run is over
pub end_is_over : (w : World) (s : State) → s.frame.function < length w.functions → is_at_the_end (rust_at w s) ≡ some (over w s)
unfolding is_at_the_end at_end_of rust_of over code_of
end_is_over w s known = past_there w.functions s.frame.function s.frame.position known

-- ---- operands: an instruction that has its operands does as the Rust does behind its reads, and one that has not faults where the Rust panics

pub agrees_as : (w : World) (out : Outcome) {d d' : Did} → d ≡ d' → Agrees w out d' → Agrees w out d
agrees_as w out e a = subst (Agrees w out) (sym e) a

either_way : (b : Bool) → (if b then panic else panic) ≡ panic
either_way true = refl
either_way false = refl

-- s has read its opcode
module _ (w : World) (s : State) (h : Orderly w s) (inside : position s ≤ length (code_of w s)) (p : Op) where
  operands_same : (n : ℕ) (d : Did)
      → (position s + 2 * n ≤ length (code_of w s) → Agrees w (exec_of w p (word_at (code_of w s) (position s)) (word_at (code_of w s) (position s + 2)) (at (position s + 2 * n) s)) d)
      → (length (code_of w s) < position s + 2 * n → d ≡ panic) → Agrees w (operands_then w p n s) d
  unfolding operands_then Agrees FaultsAs Panics
  operands_same n d read short = on (leb (position s + 2 * n) (length (code_of w s))) refl
    where
      on : (b : Bool) → leb (position s + 2 * n) (length (code_of w s)) ≡ b
          → Agrees w (if b then exec_of w p (word_at (code_of w s) (position s)) (word_at (code_of w s) (position s + 2)) (at (position s + 2 * n) s) else faulted f.CodeEnds s) d
      on true e = read (leb-true _ _ e)
      on false e = agrees_as w (faulted f.CodeEnds s) (short (leb-false _ _ e)) tt

  pub reads_none : (y : rust.Op) → ((t : State) → Orderly w t → (a b : ℕ) → Agrees w (exec_of w p a b t) (arm y (rust_at w t))) → Agrees w (operands_then w p 0 s) (arm y (rust_at w s))
  unfolding rust_of
  reads_none y same =
      let here : position s + 2 * 0 ≡ position s = omega arith in
      operands_same 0 (arm y (rust_at w s)) (λ l. rw here (same (at (position s) s) (orderly_at (position s) h) _ _)) (λ l. absurd (let z : ⊥ = omega arith in z))

  pub reads_one : (body : ℕ → Vm → Did) → ((t : State) → Orderly w t → (a b : ℕ) → Agrees w (exec_of w p a b t) (body a (rust_at w t)))
      → Agrees w (operands_then w p 1 s) (read_u16 (rust_at w s) body)
  reads_one body same =
      operands_same 1 _
      (λ l. agrees_as w _ (word_there w s h.known body l) (same (at (position s + 2) s) (orderly_at (position s + 2) h) _ _))
      (λ l. word_past w s h.known body l)

  -- a test of the first operand may stand before the second is read
  pub reads_two : (test : ℕ → Bool) (body : ℕ → Vm → Did) (body' : ℕ → ℕ → Vm → Did)
      → ((a : ℕ) (t : State) → body a (rust_at w t) ≡ (if test a then read_u16 (rust_at w t) (body' a) else panic))
      → ((t : State) → Orderly w t → (a b : ℕ) → Agrees w (exec_of w p a b t) (if test a then body' a b (rust_at w t) else panic))
      → Agrees w (operands_then w p 2 s) (read_u16 (rust_at w s) body)
  unfolding code_of
  reads_two test body body' is same =
      let four : position s + 2 + 2 ≡ position s + 2 * 2 = omega arith in
      let a : ℕ = word_at (code_of w s) (position s) in
      let t = at (position s + 2) s in
      operands_same 2 _
      (λ l. agrees_as w _
      (word_there w s h.known body (omega arith) ∙ is a t ∙ ap (λ (d : Did). if test a then d else panic) (word_there w t h.known (body' a) (omega arith)))
      (rw (← four) (same (at (position s + 2 + 2) s) (orderly_at (position s + 2 + 2) h) _ _)))
      (λ l. ⊎_elim (λ g. word_past w s h.known body g)
      (λ g. word_there w s h.known body g ∙ is a t ∙ ap (λ (d : Did). if test a then d else panic) (word_past w t h.known (body' a) (omega arith)) ∙ either_way (test a))
      (by_less (length (code_of w s)) (position s + 2)))
