-- The written steps of a run, one after another.
use Rattle.std.specs.Prelude.{◌≡◌, true, false, not, List, ◌++◌, ℕ, suc, ◌+◌, ◌≤◌, ◌<◌, eqb, Option, Some}
use Rattle.model.specs.declared.Value.{Value}
use Rattle.model.specs.declared.Fault.{Fault}
use Rattle.model.specs.Heap.{Cell}
use Rattle.model.specs.Steps.{World, State, Outcome, went, returned, faulted, short, with_units, step_of}
use Rattle.model.specs.Runs.{Progress, counted, Ended, ended, stopped, paused, over, end_from}
use Rattle.model.specs.Machines.{some_last}

-- ---- what a step from s does to the units, the heap and the last result

-- a step that completes spends a unit or more
abbrev pub Spends : State → Outcome → Type 0
Spends s (went s') = s'.units < s.units
Spends s (returned x s') = s'.units < s.units
Spends s (faulted n s') = s'.units ≤ s.units
Spends s short = Unit

-- what it spends is no longer left
abbrev pub Balances : State → Outcome → Type 0
Balances s (went s') = s'.spent + s'.units ≡ s.spent + s.units
Balances s (returned x s') = s'.spent + s'.units ≡ s.spent + s.units
Balances s (faulted n s') = s'.spent + s'.units ≡ s.spent + s.units
Balances s short = Unit

-- the heap H' is H with cells behind it
pub record Grows (H H' : List Cell) : Type 0 where
  pub more : List Cell
  pub is : H' ≡ H ++ more

-- of a step where the heap was H and the last result l: the heap only grows; only a completed root Return sets the last result, and it builds nothing
abbrev pub Adds : List Cell → Option Value → Outcome → Type 0
Adds H l (went s) = Grows H s.heap × (s.last ≡ l)
Adds H l (returned x s) = (s.heap ≡ H) × (s.last ≡ Some x)
Adds H l (faulted n s) = Grows H s.heap × (s.last ≡ l)
Adds H l short = Unit

-- ---- a run

-- n written steps from s to t; m is how far the run had come before them, k after them
pub data Steps (w : World) : ℕ → Progress → State → Progress → State → Type 0 where
  none : {m : Progress} {s : State} → Steps w 0 m s m s
  on : {n : ℕ} {m k : Progress} {s s' t : State} → over w s ≡ false → step_of w s ≡ went s' → Steps w n m s' k t → Steps w (suc n) m s k t
  ret : {n : ℕ} {m k : Progress} {s s' t : State} {v : Value} → over w s ≡ false → step_of w s ≡ returned v s' → Steps w n (counted v m s') s' k t → Steps w (suc n) m s k t

-- how many of the steps are root Returns
unfoldable pub root_returns : {w : World} {n : ℕ} {m k : Progress} {s t : State} → Steps w n m s k t → ℕ
root_returns none = 0
root_returns (on o q p) = root_returns p
root_returns (ret o q p) = suc (root_returns p)

-- a run that ends: the written steps up to the state where it is over
pub record EndedBy (w : World) (m : Progress) (s : State) (k : Progress) (t : State) : Type 0 where
  pub steps : ℕ
  pub path : Steps w steps m s k t
  pub over : over w t ≡ true

-- a run that faults: the written steps up to the state `at`, and the step from there that faults
pub record StoppedBy (w : World) (m : Progress) (s : State) (n : Fault) (t : State) (k : Progress) : Type 0 where
  pub steps : ℕ
  pub at : State
  pub path : Steps w steps m s k at
  pub goes_on_lem : over w at ≡ false
  pub stops : step_of w at ≡ faulted n t

-- a run that is paused: the written steps up to the state where it stands, from which a step cannot be paid for
pub record PausedBy (w : World) (m : Progress) (s : State) (k : Progress) (t : State) : Type 0 where
  pub steps : ℕ
  pub path : Steps w steps m s k t
  pub goes_on_lem : over w t ≡ false
  pub unpaid : step_of w t ≡ short

-- what an end of a run says of the written steps
abbrev pub By : World → Progress → State → Ended → Type 0
By w m s (ended k t) = EndedBy w m s k t
By w m s (stopped n t k) = StoppedBy w m s n t k
By w m s (paused k t) = PausedBy w m s k t

-- what a fault goes back to has the last result of s, and its cells are at the front of the heap of s
pub record Marked (m : Progress) (s : State) : Type 0 where
  pub last : m.last ≡ s.last
  pub heap : Grows m.heap s.heap

-- a run that has come so far has a value to answer exactly if it has completed a root Return
abbrev pub AnswersReturns : Progress → Type 0
AnswersReturns m = some_last m.answer ≡ not (eqb m.returns 0)

-- ---- more units

-- s with d units more
abbrev pub more : ℕ → State → State
more d s = with_units (s.units + d) s

-- d units more, given to a run that has come so far: a paused one goes on with them, and for any other they are left
abbrev pub resumed : World → ℕ → Ended → Ended
resumed w d (ended k t) = ended k (more d t)
resumed w d (stopped n t k) = stopped n (more d t) k
resumed w d (paused k t) = end_from w k (more d t)
