-- A run in parts: good order of a run under way, and what the units come to that are dealt out.
use Rattle.std.specs.Prelude.{◌≡◌, false, List, [], ◌∷◌, ℕ, ◌+◌, ◌≤◌, length}
use Rattle.model.specs.Steps.{World}
use Rattle.model.specs.Runs.{Machine, standing, over, Under, Part, ends, pauses, continue_of}
use Rattle.laws_runs.specs.Sane.{AllPlaced, Sane, SaneMark}
use Rattle.laws_runs.specs.Paths.{Marked, AnswersReturns}

-- it stands before an instruction, and what abandoning it would leave is in good order
pub record SaneUnder (w : World) (r : Under) : Type 0 where
  pub state : Sane w r.state
  pub inside : over w r.state ≡ false
  pub units : r.state.spent + r.state.units ≡ r.given
  pub start : length r.start ≤ w.stack_room
  pub placed : AllPlaced (length w.text) r.progress.heap r.start
  pub mark : SaneMark w r.progress
  pub marked : Marked r.progress r.state
  pub answer : AnswersReturns r.progress

-- a machine in good order, for any later run
abbrev pub SaneMachine : World → Machine → Type 0
SaneMachine w m = (u : ℕ) → Sane w (standing m m.frame.entered u)

-- what a part leaves is in good order: the machine, or the run under way
abbrev pub SanePart : World → Part → Type 0
SanePart w (ends x) = SaneMachine w x.machine
SanePart w (pauses r) = SaneUnder w r

-- a part, and behind it u units more, if the run is paused
unfoldable pub onward : World → ℕ → Part → Part
onward w u (ends x) = ends x
onward w u (pauses r) = continue_of w r u

unfoldable pub sum_of : List ℕ → ℕ
sum_of [] = 0
sum_of (u ∷ us) = u + sum_of us
