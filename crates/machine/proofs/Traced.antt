-- The backtrace of a fault, in numbers and as the rules have it.
--     readable         a frame whose place lies inside its code can be read
--     traced-at        each caller of a backtrace that stands
--     trace-told       the numbers are the backtrace's
--     entries-told     and the backtrace is what they tell
-- Assumes nothing.
use Rattle.std.specs.Prelude.{if◌then◌else◌}
use mathlib.Core.Path.{◌≡◌, refl, sym, ap, subst, ◌∙◌}
use mathlib.Core.Bool.{true}
use mathlib.Core.Logic.{⊎_elim}
use mathlib.Core.List.{List, [], ◌∷◌, ◌++◌}
use Prim.Native.Nat.{ℕ, zero, suc, ◌+◌, ◌-◌, ◌*◌, ◌≤◌, ◌<◌}
use native.Mathlib.Nat.{eq-or-lt_of_le}
use native.Mathlib.Omega.{arith}
use borrow.Author.Tests.{ltb-true}
use lib.Dec.{ltb, eqb}
use lib.ListN.{length, get_or, drop, length-take, length-drop, get_or-eq_default}
use Rattle.model.specs.declared.Counts.{Counts}
use Rattle.model.specs.declared.Frame.{Frame}
use Rattle.model.specs.Basics.{written}
use Rattle.model.specs.Values.{places, text_at}
use Rattle.model.specs.Programs.{Function, function_at}
use Rattle.model.specs.Runs.{Entry, trace_of, traceable}
use Rattle.model.specs.Stores.{Stores, part, code_word, function_in, functions_from}
use Rattle.model.specs.Machines.{entry_words, entries_in}
use Rattle.value.proofs.Coding.{and_left, and_right}
use Rattle.cells.proofs.Order.{by_less}
use Rattle.laws_runs.proofs.Programs.{Parts, length_functions, function_at_lem, part_size, code_size}
use Rattle.frames.specs.Links.{no_frame, callers_of, places_of, place_at, trace_words, Readable}
use Rattle.frames.proofs.Meaning.{AllKnown, trace_is_good, trace_is}
use Rattle.laws_images.proofs.Held.{written_front}
use Rattle.machine.proofs.Granted.{functions_there}

-- ---- frames whose places lie inside their codes

abbrev pub Inside : List Function → Frame → Type 0
Inside fs r = r.position - 1 < length (function_at fs r.function).code

module _ (fs : List Function) where
  no_code : (i : ℕ) → length fs ≤ i → (function_at fs i).code ≡ []
  unfolding function_at
  no_code i h = ap (λ (f : Function). f.code) (get_or-eq_default fs _ {n = i} h)

  -- so their functions are known
  known : (r : Frame) → Inside fs r → r.function < length fs
  known r h =
      ⊎_elim (λ l. l)
      (λ g. absurd (let z : r.position - 1 < length {A = ℕ} [] = rw (no_code r.function g) at h in let y : ⊥ = omega arith in y))
      (by_less r.function (length fs))

  pub traced_first : (r : Frame) (rs : List Frame) → traceable fs (r ∷ rs) ≡ true → Inside fs r × (traceable fs rs ≡ true)
  unfolding traceable
  traced_first r rs e =
      let here = ltb (r.position - 1) (length (function_at fs r.function).code) in
      (ltb-true _ _ (and_left here (traceable fs rs) e), and_right here (traceable fs rs) e)

  pub traced_at : (n : ℕ) (frames : List Frame) → traceable fs (callers_of n frames) ≡ true → (i : ℕ) → i < n → Inside fs (get_or frames i no_frame)
  unfolding callers_of
  traced_at zero frames e i h = absurd (let z : ⊥ = omega arith in z)
  traced_at (suc n) frames e i h =
      let (here, rest) = traced_first (get_or frames n no_frame) (callers_of n frames) e in
      ⊎_elim (λ same. subst (λ (j : ℕ). Inside fs (get_or frames j no_frame)) (sym same) here)
      (λ below. traced_at n frames rest i below)
      (eq-or-lt_of_le {n = i} {m = n} (omega arith))

  all_known : (rs : List Frame) → traceable fs rs ≡ true → AllKnown (length fs) rs
  all_known [] e = tt
  all_known (r ∷ rs) e = let (here, rest) = traced_first r rs e in (known r here, all_known rs rest)

-- ---- over a program in good order

module _ (c : Counts) (s : Stores) (p : Parts c s) where
  abbrev functions : List Function
  functions = functions_from c.functions 0 s

  pub readable : (r : Frame) → Inside functions r → Readable s.functions s.main_places s.other_places r
  unfolding places_of place_at places part text_at
  readable r h =
      let l : r.function < c.functions = rw (length_functions s c.functions 0) at (known functions r h) in
      let there = functions_there c s p in
      let code = code_size c s p r.function l in
      let store = if eqb r.function 0 then s.main_places else s.other_places in
      let whole = simp (length-take, length-drop) at (part_size c s.functions p.functions s.main_places s.other_places p.places r.function l) in
      record {
        known = omega arith;
        inside = omega arith;
      }

  its_places : (i : ℕ) → i < c.functions → (function_at functions i).places ≡ part (if eqb i 0 then s.main_places else s.other_places) (code_word s.functions i)
  unfolding function_in
  its_places i h = let z : 0 + i ≡ i = omega arith in rw (function_at_lem s c.functions 0 i h, z)

  pub trace_told : (rs : List Frame) → traceable functions rs ≡ true → trace_words s.functions s.main_places s.other_places rs ≡ entry_words (trace_of functions rs)
  trace_told rs e =
      let k : AllKnown c.functions rs = rw (length_functions s c.functions 0) at (all_known functions rs e) in
      trace_is s.functions c.functions functions (code_size c s p) s.main_places s.other_places its_places rs k
      (trace_is_good s.functions c.functions functions (code_size c s p) rs k ∙ e)

-- ---- entries in numbers

pub length_trace : (fs : List Function) (rs : List Frame) → length (trace_of fs rs) ≡ length rs
unfolding trace_of
length_trace fs [] = refl
length_trace fs (r ∷ rs) = ap suc (length_trace fs rs)

length_entries : (es : List Entry) → length (entry_words es) ≡ 3 * length es
unfolding entry_words
length_entries [] = refl
length_entries (e ∷ es) = let z = length_entries es in omega arith

entries_behind : (n i a b c : ℕ) (ws : List ℕ) → entries_in n (suc i) (a ∷ b ∷ c ∷ ws) ≡ entries_in n i ws
unfolding entries_in
entries_behind zero i a b c ws = refl
entries_behind (suc n) i a b c ws =
    let x : 3 * suc i ≡ suc (suc (suc (3 * i))) = omega arith in
    let y : 3 * suc i + 1 ≡ suc (suc (suc (3 * i + 1))) = omega arith in
    let z : 3 * suc i + 2 ≡ suc (suc (suc (3 * i + 2))) = omega arith in
    rw (z, y, x, entries_behind n (suc i) a b c ws)

entries_of : (es : List Entry) (rest : List ℕ) → entries_in (length es) 0 (entry_words es ++ rest) ≡ es
unfolding entries_in entry_words
entries_of [] rest = refl
entries_of (e ∷ es) rest =
    ap (λ (t : List Entry). e ∷ t) (entries_behind (length es) 0 e.function e.place e.entered (entry_words es ++ rest) ∙ entries_of es rest)

pub entries_told : (es : List Entry) (b : List ℕ) → 3 * length es ≤ length b → entries_in (length es) 0 (written b 0 (entry_words es)) ≡ es
entries_told es b h = rw (written_front b (entry_words es) (omega (arith, length_entries es))) (entries_of es (drop (length (entry_words es)) b))
