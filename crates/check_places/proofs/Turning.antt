-- A pass that stops at the first instruction that breaks the rule.
use mathlib.Core.Path.{◌≡◌, refl, sym}
use mathlib.Core.Bool.{Bool, true, false}
use mathlib.Core.List.{List}
use Prim.Native.Nat.{ℕ, ◌≤◌, ◌<◌}
use lib.ListN.{length}
use Rattle.model.specs.Programs.{Program, next_in}
use Rattle.check_rules.specs.declared.Rule.{Rule}
use Rattle.check_code.specs.Links.{Sized}
use Rattle.check_code.proofs.Turns.{Turn, first_turn, last_turn, decides, next_turn}
use Rattle.check_places.specs.Places.{keeps_at, first_not, place_in, KeepsOne, PlacePost}

-- the place that is to be found is the first from i on
pub record Seeking (cs ss fs : ℕ) (q : Rule) (main : Bool) (code : List ℕ) (i : ℕ) : Type 0 where
  pub each : (p : Program) → Sized cs ss fs p → Turn code (place_in p q main code) (first_not (keeps_at p q main code) (length code)) i

pub none_sought : (cs ss fs : ℕ) (q : Rule) (main : Bool) (code : List ℕ) → Seeking cs ss fs q main code 0
unfolding place_in
none_sought cs ss fs q main code = record { each = λ p z. first_turn code (first_not (keeps_at p q main code) (length code)) refl }

module _ {cs ss fs : ℕ} {q : Rule} {main : Bool} {code : List ℕ} {i : ℕ} (t : Seeking cs ss fs q main code i) where
  pub none_breaks : length code ≤ i → PlacePost cs ss fs q main code (length code)
  unfolding first_not
  none_breaks h = record { means = λ p z. sym (last_turn (t.each p z) h) }

  module _ (h : i < length code) {b : Bool} (e : KeepsOne cs ss fs q main code i b) where
    pub one_breaks : b ≡ false → PlacePost cs ss fs q main code i
    unfolding first_not
    one_breaks f = record { means = λ p z. sym (decides (t.each p z) h (λ is. rw (← e.means p z, f))) }

    pub one_keeps : b ≡ true → {j : ℕ} → j ≡ next_in code i → Seeking cs ss fs q main code j
    unfolding first_not
    one_keeps f g = record { each = λ p z. next_turn (t.each p z) h (λ is. rw (← e.means p z, f)) g }
