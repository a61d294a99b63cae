-- [entered] When the frames of a run were entered: told by its written steps.
use Rattle.std.specs.Prelude.{◌≡◌, List, ◌∷◌, map, ℕ, ◌-◌, ltb, length, drop, if◌then◌else◌}
use Rattle.model.specs.Steps.{World, State}
use Rattle.model.specs.Runs.{Machine, begin, Progress, at_start}
use Rattle.laws_runs.specs.Paths.{Steps, none, on, ret}

-- what the frames of a state tell, innermost first
abbrev pub entered_in : State → List ℕ
entered_in s = map (λ f. f.entered) (s.frame ∷ s.callers)

-- a watch kept beside a run: a step from s to t that adds a frame has entered it, and the units that are spent when it has completed are noted; one that
-- drops a frame has left it, and its note goes
unfoldable pub noted : (s t : State) → (notes : List ℕ) → List ℕ
noted s t notes = if ltb (length s.callers) (length t.callers) then t.spent ∷ notes else drop (length s.callers - length t.callers) notes

-- along written steps
unfoldable pub noted_along : {w : World} {n : ℕ} {m k : Progress} {s t : State} → Steps w n m s k t → (notes : List ℕ) → List ℕ
noted_along none notes = notes
noted_along (on {s = s} {s' = s'} o q p) notes = noted_along p (noted s s' notes)
noted_along (ret {s = s} {s' = s'} o q p) notes = noted_along p (noted s s' notes)

-- a run of m that was given u units, in whatever parts, stands at t: written steps of one run lead there, and each frame tells what they tell. At its start
-- all numbers are 0.
pub record Watched (w : World) (m : Machine) (u : ℕ) (t : State) : Type 0 where
  pub steps : ℕ
  pub kept : Progress
  pub path : Steps w steps (at_start (begin m u)) (begin m u) kept t
  pub tells : entered_in t ≡ noted_along path (entered_in (begin m u))
