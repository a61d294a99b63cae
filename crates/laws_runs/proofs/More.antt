-- Units that are dealt out: what a run comes to with more of them, and that they change nothing where there were enough.
use mathlib.Core.Path.{◌≡◌, refl, sym, ap, subst, ◌∙◌}
use mathlib.Core.Bool.{Bool, true, false}
use mathlib.Core.List.{List}
use Prim.Native.Nat.{ℕ, ◌+◌, ◌-◌}
use native.Mathlib.Omega.{arith}
use Rattle.model.specs.declared.Tally.{Tally}
use Rattle.model.specs.Steps.{World, State, Outcome, went, returned, faulted, short, code_of, step_of}
use Rattle.model.specs.Runs.{Machine, begin, Progress, at_start, Ended, ended, stopped, paused, over, end_from, end_of, Entry, fault as faulting, part_of, abandon_of, given_up, run_of}
use Rattle.laws_runs.specs.Paths.{Steps, none, on, ret, By, more, resumed}
use Rattle.laws_runs.proofs.Does.{Does, fault, spent, full, push, answer, compare, fall, leap, call, build, field, back, home, Stepped, unpaid, unread, ran, step_does}
use Rattle.laws_runs.proofs.Ends.{end_of_lem}
use Rattle.laws_runs.proofs.Paths.{run_by, path_end, path_run}

-- the same outcome with d units more, unless they were short
abbrev pub More : ℕ → Outcome → Outcome → Type 0
More d (went s) y = y ≡ went (more d s)
More d (returned x s) y = y ≡ returned x (more d s)
More d (faulted n s) y = y ≡ faulted n (more d s)
More d short y = Unit

does_more : {w : World} {a : ℕ} {s t : State} {x y : Outcome} (d : ℕ) → t ≡ more d s → Does w a s t x y → More d x y
does_more d e (fault n) = rw e
does_more d e (spent x) = tt
does_more d e (full b) = rw e
does_more d e (push h l) = rw e
does_more d e (answer b p) = rw e
does_more {s = s} d e (compare b k l h) = let z : s.units + d - k ≡ s.units - k + d = omega arith in rw (e, z)
does_more d e (fall b) = rw e
does_more d e (leap b) = rw e
does_more d e (call i n b l h g) = rw e
does_more d e (build b l) = rw e
does_more d e (field p i b h) = rw e
does_more d e (back b h) = rw e
does_more d e (home b h) = rw e

stepped_more : (d : ℕ) {w : World} {s : State} {x y : Outcome} → Stepped w s (more d s) x y → More d x y
stepped_more d (unpaid q x) = tt
stepped_more d {s = s} (unread l n) = let z : s.units + d - 1 ≡ s.units - 1 + d = omega arith in rw z
stepped_more d {s = s} (ran i a h l k q z) = does_more d (let e : s.units + d - 1 ≡ s.units - 1 + d = omega arith in rw e) z

pub step_more : (w : World) (s : State) (d : ℕ) → More d (step_of w s) (step_of w (more d s))
step_more w s d = stepped_more d (step_does w s (s.units + d) (omega arith))

module _ (w : World) (d : ℕ) where
  step_as : (s : State) {x : Outcome} → step_of w s ≡ x → More d x (step_of w (more d s))
  step_as s q = subst (λ (x : Outcome). More d x (step_of w (more d s))) q (step_more w s d)

  over_more : (s : State) (b : Bool) → over w s ≡ b → over w (more d s) ≡ b
  unfolding over code_of
  over_more s b o = o

  path_more : {n : ℕ} {m k : Progress} {s t : State} → Steps w n m s k t → Steps w n m (more d s) k (more d t)
  path_more none = none
  path_more (on {s = s} o q p) = on (over_more s false o) (step_as s q) (path_more p)
  path_more (ret {s = s} o q p) = ret (over_more s false o) (step_as s q) (path_more p)

  dealt_by : (m : Progress) (s : State) (e : Ended) → By w m s e → end_from w m (more d s) ≡ resumed w d e
  dealt_by m s (ended k t) r = path_run w m (more d s) (ended k (more d t)) (record { steps = r.steps; path = path_more r.path; over = over_more t true r.over })
  dealt_by m s (stopped n t k) r = path_run w m (more d s) (stopped n (more d t) k) (record {
    steps = r.steps;
    at = more d r.at;
    path = path_more r.path;
    goes_on_lem = over_more r.at false r.goes_on_lem;
    stops = step_as r.at r.stops;
  })
  dealt_by m s (paused k t) r = path_end w (path_more r.path)

  -- THE DEALING LAW: with d units more a run comes to what it comes to when they are given to it where it is paused
  pub dealt : (m : Progress) (s : State) → end_from w m (more d s) ≡ resumed w d (end_from w m s)
  dealt m s = dealt_by m s (end_from w m s) (run_by w m s)

  -- ---- a whole run

  module _ (m : Machine) (u : ℕ) where
    settle_more : (e : Ended) → ((i : Tally) (bt : List Entry) → (given_up w (part_of w m.stack u e)).reply ≡ faulting 13 i bt → ⊥)
        → given_up w (part_of w m.stack (u + d) (resumed w d e)) ≡ given_up w (part_of w m.stack u e)
    unfolding part_of given_up abandon_of
    settle_more (ended k t) h = refl
    settle_more (stopped n t k) h = refl
    settle_more (paused k t) h = absurd (h _ _ refl)

    -- a run that is not out of units answers and leaves the same with more
    pub more_units : ((i : Tally) (bt : List Entry) → (run_of w m u).reply ≡ faulting 13 i bt → ⊥) → run_of w m (u + d) ≡ run_of w m u
    unfolding run_of
    more_units h =
        let s = begin m u in
        ap (λ (e : Ended). given_up w (part_of w m.stack (u + d) e)) (end_of_lem w (more d s) ∙ dealt (at_start s) s ∙ ap (resumed w d) (sym (end_of_lem w s)))
        ∙ settle_more (end_of w s) h
