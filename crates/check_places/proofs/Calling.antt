-- A Call that is looked for: in one code, instruction by instruction; and in a program, where two Calls pass different counts.
use mathlib.Core.Path.{◌≡◌, refl, sym}
use mathlib.Core.Bool.{Bool, true, false, not, ◌&&◌, ◌||◌}
use mathlib.Core.List.{List}
use Prim.Native.Nat.{ℕ, ◌≤◌, ◌<◌}
use lib.Dec.{eqb}
use lib.ListN.{length, get_or}
use borrow.Author.Tests.{eq-eqb, ne_eqb}
use Rattle.model.specs.Programs.{next_in}
use Rattle.check_rules.specs.Rules.{call, first_at, second_at}
use Rattle.check_code.proofs.Turns.{Turn, first_turn, last_turn, decides, next_turn}
use Rattle.check_places.specs.Places.{first_not}
use Rattle.check_places.specs.Calls.{calls_other, call_in}

-- ---- the test of one instruction

module _ (f : ℕ) (any : Bool) (k : ℕ) (code : List ℕ) (i : ℕ) where
  pub no_call : (get_or code i 0 ≡ call → ⊥) → false ≡ calls_other f any k code i
  unfolding calls_other
  no_call h = rw (ne_eqb _ _ h)

  pub a_call : get_or code i 0 ≡ call → {g : ℕ} → (g ≡ first_at code i) × (g < 0x1_0000) → {n : ℕ} → (n ≡ second_at code i) × (n < 0x1_0000)
      → (eqb g f && (any || not (eqb n k))) ≡ calls_other f any k code i
  unfolding calls_other
  a_call h e d = rw (eq-eqb _ _ h, e.0, d.0)

-- ---- a pass that stops at the first such Call

pub record Looking (f : ℕ) (any : Bool) (k : ℕ) (code : List ℕ) (i : ℕ) : Type 0 where
  pub turn : Turn code (call_in f any k code) (first_not (λ j. not (calls_other f any k code j)) (length code)) i

pub none_looked_at : (f : ℕ) (any : Bool) (k : ℕ) (code : List ℕ) → Looking f any k code 0
unfolding call_in
none_looked_at f any k code = record { turn = first_turn code (first_not (λ j. not (calls_other f any k code j)) (length code)) refl }

module _ {f : ℕ} {any : Bool} {k : ℕ} {code : List ℕ} {i : ℕ} (t : Looking f any k code i) where
  pub none_calls : length code ≤ i → length code ≡ call_in f any k code
  unfolding first_not
  none_calls h = sym (last_turn t.turn h)

  module _ (h : i < length code) {b : Bool} (e : b ≡ calls_other f any k code i) where
    pub one_calls : b ≡ true → i ≡ call_in f any k code
    unfolding first_not
    one_calls g = sym (decides t.turn h (λ is. rw (← e, g)))

    pub one_passed_over : b ≡ false → {j : ℕ} → j ≡ next_in code i → Looking f any k code j
    unfolding first_not
    one_passed_over g z = record { turn = next_turn t.turn h (λ is. rw (← e, g)) z }
