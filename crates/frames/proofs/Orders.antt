-- What the definitions of good order say to the code that decides them: each test that fails, and all that pass.
-- Assumes nothing.
use mathlib.Core.Path.{◌≡◌, sym, ◌∙◌}
use mathlib.Core.Bool.{Bool, true, false, ◌&&◌}
use mathlib.Mathlib.Data.Bool.Basic.{and_elim_left}
use mathlib.Core.List.{List}
use Prim.Native.Nat.{ℕ, suc, ◌+◌, ◌-◌, ◌<◌, ◌≤◌}
use native.Mathlib.Numerals.{add-one}
use native.Mathlib.Omega.{arith}
use lib.Dec.{ltb, leb, eqb}
use borrow.Author.Tests.{ltb-true, lt-ltb, le-ltb, le-leb, lt-leb, eq-eqb, ne_eqb}
use Rattle.model.specs.declared.Frame.{Frame}
use Rattle.model.specs.Basics.{every_from}
use Rattle.model.specs.Values.{payload_at}
use Rattle.model.specs.Stores.{size, code_word}
use Rattle.frames.specs.Links.{frame_good, entered_good, caller_good}

-- ---- a frame, by its place

module _ (count slots : ℕ) (r : Frame) where
  pub unknown : count ≤ r.function → false ≡ frame_good count slots r
  unfolding frame_good
  unknown h = rw (le-ltb r.function count)

  pub no_base : r.function < count → slots < r.base → false ≡ frame_good count slots r
  unfolding frame_good
  no_base h k = rw (lt-ltb r.function count, lt-leb r.base slots)

  pub known : r.function < count → r.base ≤ slots → leb r.position 131070 ≡ frame_good count slots r
  unfolding frame_good
  known h k = rw (lt-ltb r.function count, le-leb r.base slots)

  pub function_known : frame_good count slots r ≡ true → r.function < count
  unfolding frame_good
  function_known h = ltb-true r.function count (and_elim_left (ltb r.function count) (leb r.base slots)
      (and_elim_left (ltb r.function count && leb r.base slots) (leb r.position 131070) h))

module _ (i caller : ℕ) (r : Frame) where
  pub not_first : (i ≡ 0 → ⊥) → leb caller r.entered ≡ entered_good i caller r
  unfolding entered_good
  not_first h = rw (ne_eqb i 0)

  pub not_main : i ≡ 0 → (r.function ≡ 0 → ⊥) → false ≡ entered_good i caller r
  unfolding entered_good
  not_main h k = rw (eq-eqb i 0, ne_eqb r.function 0)

  pub main : i ≡ 0 → r.function ≡ 0 → eqb r.base 0 ≡ entered_good i caller r
  unfolding entered_good
  main h k = rw (eq-eqb i 0, eq-eqb r.function 0)

module _ (words : List ℕ) (n i : ℕ) (r : Frame) where
  pub innermost : n ≤ i + 1 → true ≡ caller_good words n i r
  unfolding caller_good
  innermost h = rw (le-ltb (i + 1) n)

  pub at_start : i + 1 < n → r.position < 1 → false ≡ caller_good words n i r
  unfolding caller_good
  at_start h k = rw (lt-ltb (i + 1) n, lt-leb 1 r.position)

  pub behind : (l : ℕ) → i + 1 < n → 1 ≤ r.position → l ≡ size (code_word words r.function) → leb r.position l ≡ caller_good words n i r
  unfolding caller_good
  behind l h k e = rw (lt-ltb (i + 1) n, le-leb 1 r.position, e)

pub code_length : (words : List ℕ) (i : ℕ) {w n : ℕ} → w ≡ payload_at words i → n ≡ size w → n ≡ size (code_word words i)
unfolding code_word
code_length words i e f = rw e at f

-- ---- the frames in order

module _ (test : ℕ → Bool) (n : ℕ) where
  -- what is ahead of place i: its frame, and what is ahead of the next place
  here_and_on : (i : ℕ) → i < n → every_from (n - i) i test ≡ (test i && every_from (n - (i + 1)) (i + 1) test)
  unfolding every_from
  here_and_on i h = let e : n - i ≡ suc (n - (i + 1)) = omega arith in rw (e, add-one i)

  pub stops_here : {verdict : Bool} (i : ℕ) → every_from (n - i) i test ≡ verdict → i < n → test i ≡ false → false ≡ verdict
  stops_here i v h e = rw e at (sym (here_and_on i h)) ∙ v

  pub goes_on : {verdict : Bool} (i : ℕ) → every_from (n - i) i test ≡ verdict → i < n → test i ≡ true → every_from (n - (i + 1)) (i + 1) test ≡ verdict
  goes_on i v h e = rw e at (sym (here_and_on i h)) ∙ v

  pub none_ahead : {verdict : Bool} (i : ℕ) → every_from (n - i) i test ≡ verdict → n ≤ i → true ≡ verdict
  unfolding every_from
  none_ahead i v h = let e : n - i ≡ 0 = omega arith in rw e at v
