-- A test that holds at every index of a range.
use mathlib.Core.Path.{◌≡◌, refl, subst}
use mathlib.Core.Bool.{Bool, true}
use mathlib.Core.Logic.{⊎_elim}
use Prim.Native.Nat.{ℕ, zero, suc, ◌+◌, ◌≤◌, ◌<◌}
use native.Mathlib.Nat.{eq-or-lt_of_le}
use native.Mathlib.Omega.{arith}
use Rattle.model.specs.Basics.{every_from}
use Rattle.value.proofs.Coding.{and_left, and_right}
use Rattle.cells.proofs.Order.{and_both}

module _ (t : ℕ → Bool) where
  pub every_of : (n i : ℕ) → every_from n i t ≡ true → (j : ℕ) → i ≤ j → j < i + n → t j ≡ true
  unfolding every_from
  every_of zero i e j l h = absurd (let z : ⊥ = omega arith in z)
  every_of (suc n) i e j l h =
      ⊎_elim (λ same. subst (λ (x : ℕ). t x ≡ true) same (and_left (t i) (every_from n (suc i) t) e))
      (λ past. every_of n (suc i) (and_right (t i) (every_from n (suc i) t) e) j (omega arith) (omega arith))
      (eq-or-lt_of_le {n = i} {m = j} l)

  pub every_to : (n i : ℕ) → ((j : ℕ) → i ≤ j → j < i + n → t j ≡ true) → every_from n i t ≡ true
  unfolding every_from
  every_to zero i f = refl
  every_to (suc n) i f = and_both (t i) (every_from n (suc i) t) (f i (omega arith) (omega arith)) (every_to n (suc i) (λ j l h. f j (omega arith) (omega arith)))
