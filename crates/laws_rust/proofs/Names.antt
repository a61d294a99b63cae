-- A search for a name: the rules' newest function is the one that the Rust finds from the last on.
use Rattle.std.specs.Prelude.{if◌then◌else◌}
use mathlib.Core.Path.{◌≡◌, refl, sym, ap, subst, ◌∙◌}
use mathlib.Core.Bool.{Bool, true, false}
use mathlib.Core.List.{List, [], ◌∷◌, map, reverse, reverse_aux}
use mathlib.Core.Option
use mathlib.Core.Option.{Option, none, some}
use Prim.Native.Nat.{ℕ, suc, ◌+◌, ◌-◌, ◌≤◌, ◌<◌}
use native.Mathlib.Omega.{arith}
use borrow.Author.Tests.{lt-ltb, le-ltb, le-leb, eqb-true, eqb-false, eq-eqb, ne_eqb}
use lib.Dec.{leb, eqb}
use lib.ListN.{length, length-map}
use Rattle.model.specs.Equality.{same_bytes}
use Rattle.model.specs.Programs.{Function, or_else, newest_from, function_named}
use Rattle.cells.proofs.Order.{same_test}
use Rattle.laws_rust.specs.Vm.{Vm, Chunk, Did, panic, unwrap, sub, eq_str, position, get_function_idx}
use Rattle.laws_rust.specs.Same.{chunk_of}
use Rattle.laws_rust.proofs.Equal.{bytes_are}

-- where the Rust finds the name t from the last on, if i is the number of the first of fs, and qs stand behind fs, turned over:
-- the newest of fs that has it, of number j, so far from the end; or where it stands among qs
pub data Found (t : List ℕ) (fs : List Function) (qs : List Chunk) (i : ℕ) : Option ℕ → Type 0 where
  newest : {j : ℕ} (r : ℕ) → position t (reverse_aux (map chunk_of fs) qs) ≡ some r → r + suc j ≡ i + length fs → Found t fs qs i (some j)
  not_here : position t (reverse_aux (map chunk_of fs) qs) ≡ Option.map (λ r. length fs + r) (position t qs) → Found t fs qs i none

-- ---- one name

eqb_turned : (a b : ℕ) → eqb a b ≡ eqb b a
eqb_turned a b = same_test (eqb a b) (eqb b a) (λ e. eq-eqb b a (sym (eqb-true a b e))) (λ e. ne_eqb b a (λ q. eqb-false a b e (sym q)))

str_turned : (xs ys : List ℕ) → eq_str xs ys ≡ eq_str ys xs
unfolding eq_str
str_turned [] [] = refl
str_turned [] (y ∷ ys) = refl
str_turned (x ∷ xs) [] = refl
str_turned (x ∷ xs) (y ∷ ys) = rw (eqb_turned x y, str_turned xs ys)

position_first : (t : List ℕ) (c : Chunk) (cs : List Chunk) (b : Bool) → same_bytes t c.name ≡ b
    → position t (c ∷ cs) ≡ (if b then some 0 else Option.map suc (position t cs))
unfolding position
position_first t c cs b e =
    ap (λ (x : Bool). if x then some 0 else Option.map suc (position t cs)) (str_turned c.name t ∙ sym (bytes_are t c.name) ∙ e)

-- ---- all of them

map_none : (x : Option ℕ) → x ≡ Option.map (λ r. 0 + r) x
map_none none = refl
map_none (some r) = let z : r ≡ 0 + r = omega arith in ap some z

map_more : (n : ℕ) (x : Option ℕ) → Option.map (λ r. n + r) (Option.map suc x) ≡ Option.map (λ r. suc n + r) x
map_more n none = refl
map_more n (some r) = let z : n + suc r ≡ suc n + r = omega arith in ap some z

module _ (t : List ℕ) (f : Function) (fs : List Function) (qs : List Chunk) (i : ℕ) where
  this_or_later : (b : Bool) → same_bytes t f.name ≡ b → {x : Option ℕ} → Found t fs (chunk_of f ∷ qs) (suc i) x → Found t (f ∷ fs) qs i (or_else x (if b then some i else none))
  unfolding or_else
  this_or_later b e (newest {j = j} r p z) = newest {j = j} r p (omega arith)
  this_or_later true e (not_here p) =
      newest {j = i} (length fs + 0) (p ∙ ap (Option.map (λ r. length fs + r)) (position_first t (chunk_of f) qs true e)) (omega arith)
  this_or_later false e (not_here p) =
      not_here (p ∙ ap (Option.map (λ r. length fs + r)) (position_first t (chunk_of f) qs false e) ∙ map_more (length fs) (position t qs))

found : (t : List ℕ) (fs : List Function) (qs : List Chunk) (i : ℕ) → Found t fs qs i (newest_from i t (map (λ (f : Function). f.name) fs))
unfolding newest_from
found t [] qs i = not_here (map_none (position t qs))
found t (f ∷ fs) qs i = this_or_later t f fs qs i (same_bytes t f.name) refl (found t fs (chunk_of f ∷ qs) (suc i))

-- ---- what the Rust makes of it

pub sub_there : (a b : ℕ) (k : ℕ → Did) → b ≤ a → sub a b k ≡ k (a - b)
unfolding sub
sub_there a b k h = rw (le-ltb a b h)

pub sub_short : (a b : ℕ) (k : ℕ → Did) → a < b → sub a b k ≡ panic
unfolding sub
sub_short a b k h = rw (lt-ltb a b h)

module _ (t : List ℕ) (fs : List Function) (vm : Vm) (has : vm.bytecode ≡ map chunk_of fs) (k : ℕ → Did) where
  abbrev then_so : List Chunk → Did
  then_so cs = unwrap (position t (reverse cs)) (λ r. sub (length cs) 1 (λ last. sub last r (λ p. if leb p 65535 then k p else panic)))

  searched : get_function_idx vm t k ≡ then_so (map chunk_of fs)
  unfolding get_function_idx
  searched = ap then_so has

  -- of no more than 65,536 functions the number of each is a u16
  newest_known : (j : ℕ) → length fs ≤ 65536 → Found t fs [] 0 (some j) → then_so (map chunk_of fs) ≡ k j
  unfolding unwrap
  newest_known j few (newest r p z) =
      let n : length (map chunk_of fs) ≡ length fs = length-map fs chunk_of in
      let is : length (map chunk_of fs) - 1 - r ≡ j = omega arith in
      ap (λ (o : Option ℕ). unwrap o (λ r'. sub (length (map chunk_of fs)) 1 (λ last. sub last r' (λ q. if leb q 65535 then k q else panic)))) p
      ∙ sub_there (length (map chunk_of fs)) 1 _ (omega arith)
      ∙ sub_there (length (map chunk_of fs) - 1) r _ (omega arith)
      ∙ ap (λ (q : ℕ). if leb q 65535 then k q else panic) is
      ∙ rw (le-leb j 65535 (omega arith)) refl

  pub name_known : (j : ℕ) → length fs ≤ 65536 → function_named t fs ≡ some j → get_function_idx vm t k ≡ k j
  unfolding function_named
  name_known j few e = searched ∙ newest_known j few (subst (Found t fs [] 0) e (found t fs [] 0))

  none_known : Found t fs [] 0 none → then_so (map chunk_of fs) ≡ panic
  unfolding unwrap position
  none_known (not_here p) =
      ap (λ (o : Option ℕ). unwrap o (λ r'. sub (length (map chunk_of fs)) 1 (λ last. sub last r' (λ q. if leb q 65535 then k q else panic)))) p

  pub name_unknown : function_named t fs ≡ none → get_function_idx vm t k ≡ panic
  unfolding function_named
  name_unknown e = searched ∙ none_known (subst (Found t fs [] 0) e (found t fs [] 0))
