-- The instruction at i, rule by rule.
use mathlib.Core.Path.{◌≡◌}
use mathlib.Core.Bool.{Bool, true}
use mathlib.Core.List.{List}
use Prim.Native.Nat.{ℕ}
use Rattle.check_rules.specs.declared.Rule.{Rule}
use Rattle.check_rules.specs.declared.Rule.TheVariants as r
use Rattle.check_rules.specs.Rules.{whole_at, call_at, jump_at}
use Rattle.check_code.specs.Links.{NumbersOne}
use Rattle.check_places.specs.Places.{keeps_at, KeepsOne}

module _ {cs ss fs : ℕ} {q : Rule} {main : Bool} {code : List ℕ} {i : ℕ} where
  pub by_whole : q ≡ r.Instructions → {b : Bool} → b ≡ whole_at code i → KeepsOne cs ss fs q main code i b
  unfolding keeps_at
  by_whole e h = record { means = λ p z. rw e h }

  pub by_numbers : q ≡ r.Numbers → {b : Bool} → NumbersOne cs ss fs code i b → KeepsOne cs ss fs q main code i b
  unfolding keeps_at
  by_numbers e h = record { means = λ p z. rw e (h.means p z) }

  pub by_calls : q ≡ r.Calls → {b : Bool} → b ≡ call_at code i → KeepsOne cs ss fs q main code i b
  unfolding keeps_at
  by_calls e h = record { means = λ p z. rw e h }

  pub by_jumps : q ≡ r.Jumps → {b : Bool} → b ≡ jump_at main code i → KeepsOne cs ss fs q main code i b
  unfolding keeps_at
  by_jumps e h = record { means = λ p z. rw e h }

  pub by_counts : q ≡ r.Counts → KeepsOne cs ss fs q main code i true
  unfolding keeps_at
  by_counts e = record { means = λ p z. rw e }

  pub by_heights : q ≡ r.Heights → KeepsOne cs ss fs q main code i true
  unfolding keeps_at
  by_heights e = record { means = λ p z. rw e }
