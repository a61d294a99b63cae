-- The end of a run without counting turns: each step spends a unit, so turns never run short.
use mathlib.Core.Path.{◌≡◌, refl}
use mathlib.Core.Bool.{Bool, true, false}
use Prim.Native.Nat.{ℕ, zero, suc, ◌<◌}
use native.Mathlib.Omega.{arith}
use Rattle.model.specs.Steps.{World, State, Outcome, went, returned, faulted, short, step_of}
use Rattle.model.specs.Runs.{Progress, at_start, counted, Ended, ended, over, end_from, next, turn, run_for, end_of}
use Rattle.laws_runs.specs.Paths.{Spends}
use Rattle.laws_runs.proofs.Spends.{step_spends}

-- two ways to go on that agree wherever fewer units are left
module _ (s : State) (k k' : Progress → State → Ended) (same : (m : Progress) (t : State) → t.units < s.units → k m t ≡ k' m t) where
  next_same : (m : Progress) (x : Outcome) → Spends s x → next k m s x ≡ next k' m s x
  unfolding next
  next_same m (went t) l = same m t l
  next_same m (returned v t) l = same (counted v m t) t l
  next_same m (faulted n t) l = refl
  next_same m short l = refl

  turn_same : (w : World) (b : Bool) (m : Progress) → turn w k b m s ≡ turn w k' b m s
  unfolding turn
  turn_same w true m = refl
  turn_same w false m = next_same m (step_of w s) (step_spends w s)

module _ (w : World) where
  enough : (n k : ℕ) (m : Progress) (s : State) → s.units < n → s.units < k → run_for w n m s ≡ run_for w k m s
  unfolding run_for
  enough zero k m s h g = absurd (let y : ⊥ = omega arith in y)
  enough (suc n) zero m s h g = absurd (let y : ⊥ = omega arith in y)
  enough (suc n) (suc k) m s h g = turn_same s (run_for w n) (run_for w k) (λ l t z. enough n k l t (omega arith) (omega arith)) w (over w s) m

  -- any number of turns above the units will do
  pub run_end : (n : ℕ) (m : Progress) (s : State) → s.units < n → run_for w n m s ≡ end_from w m s
  unfolding end_from
  run_end n m s h = enough n (suc s.units) m s h (omega arith)

  pub end_over : (m : Progress) (s : State) → over w s ≡ true → end_from w m s ≡ ended m s
  unfolding end_from run_for turn
  end_over m s e = rw e

  pub end_step : (m : Progress) (s : State) → over w s ≡ false → end_from w m s ≡ next (end_from w) m s (step_of w s)
  unfolding end_from run_for turn
  end_step m s e = rw e (next_same s (run_for w s.units) (end_from w) (λ l t h. run_end s.units l t h) m (step_of w s) (step_spends w s))

  pub end_of_lem : (s : State) → end_of w s ≡ end_from w (at_start s) s
  unfolding end_of
  end_of_lem s = refl
