-- One law of the walk, for every loop over the instructions of a code.
use mathlib.Core.Path.{◌≡◌, refl, sym, ap, ◌∙◌}
use mathlib.Core.Bool.{Bool, true, false}
use mathlib.Core.List.{List, [], ◌∷◌}
use Prim.Native.Nat.{ℕ, zero, suc, ◌+◌, ◌-◌, ◌≤◌, ◌<◌}
use native.Mathlib.Omega.{arith}
use lib.ListN.{length}
use borrow.Author.Tests.{lt-ltb, le-ltb}
use Rattle.model.specs.Programs.{Program, next_in, stands_for, stands}
use Rattle.check_rules.specs.Rules.{numbers_at, every}
use Rattle.check_code.specs.Links.{Sized, NumbersOne, NumbersAll}
use Rattle.check_code.proofs.Instructions.{further_on}

-- nothing is left at the end
none_left : (n : ℕ) (code : List ℕ) (i : ℕ) → length code ≤ i → stands_for n code i ≡ []
unfolding stands_for
none_left zero code i h = refl
none_left (suc n) code i h = rw (le-ltb _ _ h)

-- an instruction is left before it
one_left : (n : ℕ) (code : List ℕ) (i : ℕ) → i < length code → stands_for (suc n) code i ≡ i ∷ stands_for n code (next_in code i)
unfolding stands_for
one_left n code i h = rw (lt-ltb _ _ h)

-- what a pass is to find over the whole code is what `rest` finds over the positions from i on, of which `left` are enough
pub record Turn {A : Type 0} (code : List ℕ) (found : A) (rest : List ℕ → A) (i : ℕ) : Type 0 where
  pub left : ℕ
  pub enough : length code ≤ i + left
  pub so_far : found ≡ rest (stands_for left code i)

pub first_turn : {A : Type 0} (code : List ℕ) {found : A} (rest : List ℕ → A) → found ≡ rest (stands code) → Turn code found rest 0
unfolding stands
first_turn code rest e = record { left = length code; enough = omega arith; so_far = e }

module _ {A : Type 0} {code : List ℕ} {found : A} {rest : List ℕ → A} {i : ℕ} (t : Turn code found rest i) where
  pub last_turn : length code ≤ i → found ≡ rest []
  last_turn h = t.so_far ∙ ap rest (none_left t.left code i h)

  module _ (h : i < length code) where
    one_fewer : found ≡ rest (i ∷ stands_for (t.left - 1) code (next_in code i))
    one_fewer =
        let y = t.enough in
        let z : t.left ≡ suc (t.left - 1) = omega arith in
        t.so_far ∙ ap (λ (n : ℕ). rest (stands_for n code i)) z ∙ ap rest (one_left (t.left - 1) code i h)

    -- the instruction at i decides
    pub decides : {a : A} → ((is : List ℕ) → rest (i ∷ is) ≡ a) → found ≡ a
    decides d = one_fewer ∙ d _

    -- the pass goes on behind it
    pub next_turn : {onward : List ℕ → A} → ((is : List ℕ) → rest (i ∷ is) ≡ onward is) → {j : ℕ} → j ≡ next_in code i → Turn code found onward j
    next_turn d e =
        let y = t.enough in
        let x = further_on code i in
        record { left = t.left - 1; enough = omega arith; so_far = one_fewer ∙ d _ ∙ rw e }

-- ---- a pass that tests each instruction, and stops at the first that fails

pub record Passing (test : ℕ → Bool) (code : List ℕ) (i : ℕ) : Type 0 where
  pub turn : Turn code (every test (stands code)) (every test) i

pub none_tested : (test : ℕ → Bool) (code : List ℕ) → Passing test code 0
none_tested test code = record { turn = first_turn code (every test) refl }

module _ {test : ℕ → Bool} {code : List ℕ} {i : ℕ} (t : Passing test code i) where
  pub all_pass : length code ≤ i → true ≡ every test (stands code)
  unfolding every
  all_pass h = sym (last_turn t.turn h)

  module _ (h : i < length code) {r : Bool} (e : r ≡ test i) where
    pub one_fails : r ≡ false → false ≡ every test (stands code)
    unfolding every
    one_fails f = sym (decides t.turn h (λ is. rw (← e, f)))

    pub one_passes : r ≡ true → {j : ℕ} → j ≡ next_in code i → Passing test code j
    unfolding every
    one_passes f z = record { turn = next_turn t.turn h (λ is. rw (← e, f)) z }

-- ---- the same for rule 2, in each program that has so many constants, struct names and functions

pub record Numbering (constants structs functions : ℕ) (code : List ℕ) (i : ℕ) : Type 0 where
  pub each : (p : Program) → Sized constants structs functions p → Passing (numbers_at p code) code i

pub none_numbered : (constants structs functions : ℕ) (code : List ℕ) → Numbering constants structs functions code 0
none_numbered constants structs functions code = record { each = λ p z. none_tested (numbers_at p code) code }

module _ {constants structs functions : ℕ} {code : List ℕ} {i : ℕ} (t : Numbering constants structs functions code i) where
  pub all_in_range : length code ≤ i → NumbersAll constants structs functions code true
  all_in_range h = record { means = λ p z. all_pass (t.each p z) h }

  module _ (h : i < length code) {r : Bool} (e : NumbersOne constants structs functions code i r) where
    pub one_out_of_range : r ≡ false → NumbersAll constants structs functions code false
    one_out_of_range f = record { means = λ p z. one_fails (t.each p z) h (e.means p z) f }

    pub one_in_range : r ≡ true → {j : ℕ} → j ≡ next_in code i → Numbering constants structs functions code j
    one_in_range f g = record { each = λ p z. one_passes (t.each p z) h (e.means p z) f g }
