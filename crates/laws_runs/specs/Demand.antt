-- What a run that faults leaves: the machine as it was at its last completed root Return, or at its start, and nothing else of the run is seen later.
use Rattle.std.specs.Prelude.{◌≡◌, false, List, [], ◌∷◌, ℕ}
use Rattle.model.specs.declared.Value.{Value}
use Rattle.model.specs.declared.Fault.{Fault}
use Rattle.model.specs.declared.Tally.{Tally}
use Rattle.model.specs.Values.{fault_number}
use Rattle.model.specs.Steps.{World, State, went, returned, faulted, short, step_of}
use Rattle.model.specs.Runs.{Machine, begin, Progress, at_start, counted, over, Entry, trace_of, Reply, cut_at, recovered, run_of}
use Rattle.laws_runs.specs.Paths.{Steps, root_returns, Marked}

-- written steps from s to t, none of them a root Return
pub data Quiet (w : World) : State → State → Type 0 where
  stay : {s : State} → Quiet w s s
  go : {s s' t : State} → over w s ≡ false → step_of w s ≡ went s' → Quiet w s' t → Quiet w s t

-- where what a fault goes back to, k, is from on a path from s to t that begins with m: no root Return came, and k is m; or the last one made it
pub data Since (w : World) (m : Progress) (s : State) : Progress → State → Type 0 where
  start : {t : State} → Quiet w s t → Since w m s m t
  return : {n : ℕ} {k : Progress} {q q' t : State} {v : Value} → Steps w n m s k q → over w q ≡ false → step_of w q ≡ returned v q' → Quiet w q' t → Since w m s (counted v k q') t

-- runs one after another: each with its units, and in its world, since the program may grow between them
pub record Call : Type 0 where
  pub world : World
  pub units : ℕ

unfoldable pub replies_of : List Call → Machine → List Reply
replies_of [] m = []
replies_of (c ∷ cs) m = (run_of c.world m c.units).reply ∷ replies_of cs (run_of c.world m c.units).machine

-- why a run that was given u units was cut at s; the state that its backtrace tells of; and the number and the units that come back
pub data Cut (w : World) (u : ℕ) (s : State) : State → (n spent : ℕ) → Type 0 where
  -- the step from s faults
  faulting : (f : Fault) (t : State) → step_of w s ≡ faulted f t → Cut w u s t (fault_number f) t.spent
  -- it cannot be paid for, and the run is given up: all the units count
  unpaid : step_of w s ≡ short → Cut w u s (cut_at s) 13 u

-- a run of m with u units that answers fault n, what it did, and a backtrace
pub record Recovered (w : World) (m : Machine) (u n : ℕ) (did : Tally) (trace : List Entry) : Type 0 where
  -- the written steps up to the cut, and how far the run had come
  pub steps : ℕ
  pub kept : Progress
  pub at : State
  pub path : Steps w steps (at_start (begin m u)) (begin m u) kept at
  -- it is of the last completed root Return, or of the start; it has the last result of `at`, and cells at the front of those of `at`
  pub since : Since w (at_start (begin m u)) (begin m u) kept at
  pub marked : Marked kept at
  -- the cut, and the answer
  pub goes_on_lem : over w at ≡ false
  pub after : State
  pub cut : Cut w u at after n did.spent
  pub returns : did.returns ≡ root_returns path
  pub traced : trace ≡ trace_of w.functions (after.frame ∷ after.callers)
  -- what is left: the starting stack, one frame at the end of main, the cells and the last result that were kept
  pub leaves : (run_of w m u).machine ≡ recovered w m.stack kept
  -- and whatever runs come then, they answer as on a machine set up so by hand
  pub later : (calls : List Call) → replies_of calls (run_of w m u).machine ≡ replies_of calls (recovered w m.stack kept)
