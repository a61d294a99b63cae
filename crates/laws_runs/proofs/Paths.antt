-- A run's end is that of the written steps, and of no others.
use mathlib.Core.Path.{◌≡◌, refl, sym, ap, subst, ◌∙◌}
use mathlib.Core.Bool.{Bool, true, false}
use Prim.Native.Nat.{ℕ, zero, suc, ◌+◌, ◌≤◌, ◌<◌}
use native.Mathlib.Omega.{arith}
use borrow.Author.Tests.{ne_eqb}
use Rattle.model.specs.declared.Value.{Value}
use Rattle.model.specs.Steps.{World, State, Outcome, went, returned, faulted, short, step_of}
use Rattle.model.specs.Runs.{Progress, at_start, counted, Ended, ended, stopped, paused, over, end_from, next, turn, run_for}
use Rattle.model.specs.Machines.{some_last}
use Rattle.laws_runs.specs.Paths.{Balances, Grows, Adds, Steps, none, on, ret, root_returns, By, Marked, AnswersReturns}
use Rattle.laws_runs.proofs.Spends.{went_spends, returned_spends, step_balances}
use Rattle.laws_runs.proofs.Adds.{grows_none, grows_on, step_adds}
use Rattle.laws_runs.proofs.Ends.{end_over, end_step}

-- where a run starts, and where a root Return has completed
pub marked : (s : State) → Marked (at_start s) s
marked s = record { last = refl; heap = grows_none s.heap }

marked_again : (v : Value) (m : Progress) (s : State) → Marked (counted v m s) s
marked_again v m s = record { last = refl; heap = grows_none s.heap }

pub a_run_that_starts_has_no_value : (s : State) → AnswersReturns (at_start s)
unfolding some_last
a_run_that_starts_has_no_value s = refl

returned_answers : (v : Value) (m : Progress) (s : State) → AnswersReturns (counted v m s)
unfolding some_last
returned_answers v m s = let some : suc m.returns ≡ 0 → ⊥ = λ e. omega (arith, e) in rw (ne_eqb _ _ some)

module _ (w : World) where
  -- ---- from a run to its steps

  module _ (m : Progress) (s : State) (o : over w s ≡ false) where
    by_on : (s' : State) → step_of w s ≡ went s' → (e : Ended) → By w m s' e → By w m s e
    by_on s' q (ended k t) r = record { steps = suc r.steps; path = on o q r.path; over = r.over }
    by_on s' q (stopped n t k) r = record { steps = suc r.steps; at = r.at; path = on o q r.path; goes_on_lem = r.goes_on_lem; stops = r.stops }
    by_on s' q (paused k t) r = record { steps = suc r.steps; path = on o q r.path; goes_on_lem = r.goes_on_lem; unpaid = r.unpaid }

    by_ret : (x : Value) (s' : State) → step_of w s ≡ returned x s' → (e : Ended) → By w (counted x m s') s' e → By w m s e
    by_ret x s' q (ended k t) r = record { steps = suc r.steps; path = ret o q r.path; over = r.over }
    by_ret x s' q (stopped n t k) r = record { steps = suc r.steps; at = r.at; path = ret o q r.path; goes_on_lem = r.goes_on_lem; stops = r.stops }
    by_ret x s' q (paused k t) r = record { steps = suc r.steps; path = ret o q r.path; goes_on_lem = r.goes_on_lem; unpaid = r.unpaid }

  module _ (n : ℕ) (rest : (m : Progress) (s : State) → s.units < n → By w m s (run_for w n m s)) (m : Progress) (s : State) (h : s.units < suc n) where
    by_step : over w s ≡ false → (x : Outcome) → step_of w s ≡ x → By w m s (next (run_for w n) m s x)
    unfolding next
    by_step o (went t) q = by_on m s o t q (run_for w n m t) (rest m t (let z = went_spends w s q in omega arith))
    by_step o (returned x t) q = by_ret m s o x t q (run_for w n (counted x m t) t) (rest (counted x m t) t (let z = returned_spends w s q in omega arith))
    by_step o (faulted i t) q = record { steps = 0; at = s; path = none; goes_on_lem = o; stops = q }
    by_step o short q = record { steps = 0; path = none; goes_on_lem = o; unpaid = q }

    by_turn : (b : Bool) → over w s ≡ b → By w m s (turn w (run_for w n) b m s)
    unfolding turn
    by_turn true o = record { steps = 0; path = none; over = o }
    by_turn false o = by_step o (step_of w s) refl

  run_for_lem : (n : ℕ) (m : Progress) (s : State) → s.units < n → By w m s (run_for w n m s)
  unfolding run_for
  run_for_lem zero m s h = absurd (let y : ⊥ = omega arith in y)
  run_for_lem (suc n) m s h = by_turn n (run_for_lem n) m s h (over w s) refl

  pub run_by : (m : Progress) (s : State) → By w m s (end_from w m s)
  unfolding end_from
  run_by m s = run_for_lem (suc s.units) m s (omega arith)

  pub run_path : (m : Progress) (s : State) {e : Ended} → end_from w m s ≡ e → By w m s e
  run_path m s q = subst (By w m s) q (run_by m s)

  -- ---- from steps to the run

  pub path_end : {n : ℕ} {m k : Progress} {s t : State} → Steps w n m s k t → end_from w m s ≡ end_from w k t
  unfolding next
  path_end none = refl
  path_end (on {m = m} {s = s} o q p) = end_step w m s o ∙ ap (next (end_from w) m s) q ∙ path_end p
  path_end (ret {m = m} {s = s} o q p) = end_step w m s o ∙ ap (next (end_from w) m s) q ∙ path_end p

  pub path_run : (m : Progress) (s : State) (e : Ended) → By w m s e → end_from w m s ≡ e
  unfolding next
  path_run m s (ended k t) r = path_end r.path ∙ end_over w k t r.over
  path_run m s (stopped n t k) r = path_end r.path ∙ end_step w k r.at r.goes_on_lem ∙ ap (next (end_from w) k r.at) r.stops
  path_run m s (paused k t) r = path_end r.path ∙ end_step w k t r.goes_on_lem ∙ ap (next (end_from w) k t) r.unpaid

  -- ---- along a path

  -- each step is paid for
  pub path_spends : {n : ℕ} {m k : Progress} {s t : State} → Steps w n m s k t → n + t.units ≤ s.units
  path_spends none = omega arith
  path_spends (on {s = s} o q p) = let z = went_spends w s q in let y = path_spends p in omega arith
  path_spends (ret {s = s} o q p) = let z = returned_spends w s q in let y = path_spends p in omega arith

  -- units are spent or left
  pub path_balances : {n : ℕ} {m k : Progress} {s t : State} → Steps w n m s k t → t.spent + t.units ≡ s.spent + s.units
  path_balances none = refl
  path_balances (on {s = s} o q p) = path_balances p ∙ subst (Balances s) q (step_balances w s)
  path_balances (ret {s = s} o q p) = path_balances p ∙ subst (Balances s) q (step_balances w s)

  -- the number that a run tells is that of the root Returns among its written steps
  pub returns_counted : {n : ℕ} {m k : Progress} {s t : State} (p : Steps w n m s k t) → k.returns ≡ m.returns + root_returns p
  unfolding root_returns
  returns_counted none = omega arith
  returns_counted (on o q p) = returns_counted p
  returns_counted (ret o q p) = let z = returns_counted p in omega arith

  -- it has a value to answer exactly if it has completed a root Return
  pub a_run_has_a_value_exactly_behind_a_root_return : {n : ℕ} {m k : Progress} {s t : State} → AnswersReturns m → Steps w n m s k t → AnswersReturns k
  a_run_has_a_value_exactly_behind_a_root_return a none = a
  a_run_has_a_value_exactly_behind_a_root_return a (on o q p) = a_run_has_a_value_exactly_behind_a_root_return a p
  a_run_has_a_value_exactly_behind_a_root_return a (ret {m = m} {s' = s'} {v = v} o q p) = a_run_has_a_value_exactly_behind_a_root_return (returned_answers v m s') p

  went_adds : (s s' : State) → step_of w s ≡ went s' → Adds s.heap s.last (went s')
  went_adds s s' q = subst (Adds s.heap s.last) q (step_adds w s)

  went_marked : {m : Progress} {s s' : State} → Marked m s → step_of w s ≡ went s' → Marked m s'
  went_marked {s = s} {s' = s'} k q = let z = went_adds s s' q in record { last = k.last ∙ sym z.1; heap = grows_on k.heap z.0 }

  -- what a fault goes back to has the state's last result, and its cells are at the front of the state's heap
  pub mark_last : {n : ℕ} {m k : Progress} {s t : State} → Marked m s → Steps w n m s k t → Marked k t
  mark_last g none = g
  mark_last g (on o q p) = mark_last (went_marked g q) p
  mark_last g (ret {m = m} {s' = s'} {v = v} o q p) = mark_last (marked_again v m s') p

  returned_grows : (m : Progress) (s s' : State) (x : Value) → Marked m s → step_of w s ≡ returned x s' → Grows m.heap s'.heap
  returned_grows m s s' x g q =
      let z : Adds s.heap s.last (returned x s') = subst (Adds s.heap s.last) q (step_adds w s) in
      subst (Grows m.heap) (sym z.0) g.heap

  -- later it has the cells of earlier at its front
  pub mark_grows : {n : ℕ} {m k : Progress} {s t : State} → Marked m s → Steps w n m s k t → Grows m.heap k.heap
  mark_grows {m = m} g none = grows_none m.heap
  mark_grows g (on o q p) = mark_grows (went_marked g q) p
  mark_grows {m = m} g (ret {s = s} {s' = s'} {v = x} o q p) = grows_on (returned_grows m s s' x g q) (mark_grows (marked_again x m s') p)
