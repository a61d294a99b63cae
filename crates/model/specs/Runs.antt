-- [run] A run with units, its answer, what a fault leaves, and the backtrace.
use Rattle.std.specs.Prelude.{Bool, true, false, ◌&&◌, List, [], ◌∷◌, map, ℕ, zero, suc, ◌+◌, ◌-◌, ltb, leb, eqb, length, get_or, if◌then◌else◌, None, Option, Some}
use Rattle.model.specs.declared.Value.{Value}
use Rattle.model.specs.declared.Fault.{Fault}
use Rattle.model.specs.declared.Frame.{Frame}
use Rattle.model.specs.declared.Tally.{Tally}
use Rattle.model.specs.Values.{fault_number}
use Rattle.model.specs.Heap.{Cell}
use Rattle.model.specs.Programs.{Function, function_at}
use Rattle.model.specs.Steps.{World, State, Outcome, went, returned, faulted, short, with_units, at, code_of, position, step_of}
use Rattle.model.specs.declared.Refusal.{Refusal}
use Rattle.model.specs.declared.Refusal.TheVariants as why

-- a machine between runs. Slots past its counts are no part of it.
pub record Machine : Type 0 where
  pub stack : List Value
  pub frame : Frame
  pub callers : List Frame
  pub heap : List Cell
  pub last : Option Value

-- a machine as the state of a run that has spent so many units, and has so many left
abbrev pub standing : Machine → (spent units : ℕ) → State
standing m e u = record { stack = m.stack; frame = m.frame; callers = m.callers; heap = m.heap; last = m.last; spent = e; units = u }

-- [entered] "beginning a run sets it to 0 in the root and in frames left by an earlier run"
abbrev pub unentered : Frame → Frame
unentered f = record { function = f.function; position = f.position; base = f.base; entered = 0 }

abbrev pub begin : Machine → (units : ℕ) → State
begin m u = record { stack = m.stack; frame = unentered m.frame; callers = map unentered m.callers; heap = m.heap; last = m.last; spent = 0; units = u }

abbrev pub machine_of : State → Machine
machine_of s = record { stack = s.stack; frame = s.frame; callers = s.callers; heap = s.heap; last = s.last }

-- ---- [run.end] the run ends when the current frame's position is at or past its code length, in a callee too

unfoldable pub over : World → State → Bool
over w s = leb (length (code_of w s)) (position s)

-- How far a run has come: the value of its last completed root Return, if there was one, and how many it completed; and [mark] what a fault goes back to:
-- the cells and the last result of that Return, or of the run's start.
pub record Progress : Type 0 where
  pub answer : Option Value
  pub returns : ℕ
  pub heap : List Cell
  pub last : Option Value

abbrev pub at_start : State → Progress
at_start s = record { answer = None; returns = 0; heap = s.heap; last = s.last }

-- a root Return of the value v has completed, and left s
abbrev pub counted : Value → Progress → State → Progress
counted v p s = record { answer = Some v; returns = suc p.returns; heap = s.heap; last = s.last }

-- a run has ended, or a fault has stopped it; or it is paused before an instruction that its units do not pay for, as it then stands
pub data Ended : Type 0 where
  ended : Progress → State → Ended
  stopped : Fault → State → Progress → Ended
  paused : Progress → State → Ended

-- after a step from `before`: the run goes on; so it does after a root Return, which has counted; a fault stops it; a step that cannot be paid for
-- has changed nothing
unfoldable pub next : (goOn : Progress → State → Ended) → Progress → (before : State) → Outcome → Ended
next goOn p before (went s) = goOn p s
next goOn p before (returned v s) = goOn (counted v p s) s
next goOn p before (faulted n s) = stopped n s p
next goOn p before short = paused p before

-- [run.end] is looked at before each step
unfoldable pub turn : World → (goOn : Progress → State → Ended) → (is_over : Bool) → Progress → State → Ended
turn w goOn true p s = ended p s
turn w goOn false p s = next goOn p s (step_of w s)

-- steps, until the run ends, or a fault stops it, or its units are short; so many turns at most
unfoldable pub run_for : World → (turns : ℕ) → Progress → State → Ended
run_for w zero p s = paused p s
run_for w (suc turns) p s = turn w (run_for w turns) (over w s) p s

-- the end of a run that has come as far as p and stands at s. Each step spends a unit, so there are never more turns than these.
unfoldable pub end_from : World → Progress → State → Ended
end_from w p s = run_for w (suc s.units) p s

-- the end of a whole run
unfoldable pub end_of : World → State → Ended
end_of w s = end_from w (at_start s) s

-- ---- [backtrace] innermost frame first: function, the place of code byte position less 1, or byte 0 at position 0, and when it was entered

pub record Entry : Type 0 where
  pub function : ℕ
  pub place : ℕ
  pub entered : ℕ

abbrev pub entry : (function place entered : ℕ) → Entry
entry i p e = record { function = i; place = p; entered = e }

unfoldable pub trace_of : List Function → List Frame → List Entry
trace_of fs [] = []
trace_of fs (r ∷ rs) = entry r.function (get_or (function_at fs r.function).places (r.position - 1) 0) r.entered ∷ trace_of fs rs

-- every frame's place lies inside its code
unfoldable pub traceable : List Function → List Frame → Bool
traceable fs [] = true
traceable fs (r ∷ rs) = ltb (r.position - 1) (length (function_at fs r.function).code) && traceable fs rs

-- backtrace as an entry of its own
pub data Traced : Type 0 where
  trace : List Entry → Traced
  untraced : Refusal → Traced

unfoldable pub backtrace_of : List Function → List Frame → Traced
backtrace_of fs rs = if traceable fs rs then trace (trace_of fs rs) else untraced why.PlaceOutsideCode

-- ---- [recovery] the stack of the start, one frame at the end of main, the mark's cells and last result

abbrev pub root : ℕ → Frame
root i = record { function = 0; position = i; base = 0; entered = 0 }

unfoldable pub recovered : World → (start : List Value) → Progress → Machine
recovered w start p = record { stack = start; frame = root (length (function_at w.functions 0).code); callers = []; heap = p.heap; last = p.last }

-- ---- what a run answers: a value or "continue", or a fault's number and backtrace; all with the units spent and the root Returns completed

pub data Reply : Type 0 where
  value : Value → Tally → Reply
  continue : Tally → Reply
  fault : ℕ → Tally → List Entry → Reply

pub record Ran : Type 0 where
  pub reply : Reply
  pub machine : Machine

abbrev pub tally : ℕ → Progress → Tally
tally spent p = record { spent = spent; returns = p.returns }

-- the value of its last root Return, or "continue" if it had none
unfoldable pub answered : Option Value → Tally → Reply
answered None t = continue t
answered (Some v) t = value v t

-- ---- [parts] a run in parts: a beginning, which copies the stack; a continuing, which takes units; an abandoning

-- a run under way, as it stands between its parts: the units that it was given in all, the stack of its start, how far it has come; and its state,
-- which has the units that it has spent and those that are left
pub record Under : Type 0 where
  pub given : ℕ
  pub start : List Value
  pub progress : Progress
  pub state : State

-- what a part comes to: the run is over, or it is paused
pub data Part : Type 0 where
  ends : Ran → Part
  pauses : Under → Part

-- u is how many units the run was given in all, with this part
unfoldable pub part_of : World → (start : List Value) → (u : ℕ) → Ended → Part
part_of w start u (ended p s) = ends (record { reply = answered p.answer (tally s.spent p); machine = machine_of s })
part_of w start u (stopped n s p) =
    ends (record { reply = fault (fault_number n) (tally s.spent p) (trace_of w.functions (s.frame ∷ s.callers)); machine = recovered w start p })
part_of w start u (paused p s) = pauses (record { given = u; start = start; progress = p; state = s })

-- "A run begun with its position at or past the end is over at once, with 'continue'"; any other has no unit for its first instruction
unfoldable pub begin_of : World → Machine → Part
begin_of w m = part_of w m.stack 0 (end_of w (begin m 0))

-- "unspent units carry over"
unfoldable pub continue_of : World → Under → (units : ℕ) → Part
continue_of w r u = part_of w r.start (r.given + u) (end_from w r.progress (with_units (r.state.units + u) r.state))

-- where a run that is abandoned was cut: before an instruction that was not fetched; if units are left, they were too few for the pairs of a
-- comparison, which had been fetched
unfoldable pub cut_at : State → State
cut_at s = at (if eqb s.units 0 then position s else suc (position s)) s

-- "abandoning it gives fault 13 and the recovery of demand 3": all the units that it was given count as spent
unfoldable pub abandon_of : World → Under → Ran
abandon_of w r = record {
  reply = fault 13 (tally r.given r.progress) (trace_of w.functions ((cut_at r.state).frame ∷ (cut_at r.state).callers));
  machine = recovered w r.start r.progress;
}

-- units dealt out: the run is continued with each in turn, until it is over
unfoldable pub dealt : World → Part → List ℕ → Part
dealt w x [] = x
dealt w (ends x) (u ∷ us) = ends x
dealt w (pauses r) (u ∷ us) = dealt w (continue_of w r u) us

-- ---- one run: given u units at once, and abandoned where it is paused

unfoldable pub given_up : World → Part → Ran
given_up w (ends x) = x
given_up w (pauses r) = abandon_of w r

unfoldable pub run_of : World → Machine → ℕ → Ran
run_of w m u = given_up w (part_of w m.stack u (end_of w (begin m u)))

-- all that an example computes with here
unfoldable pub computes : Type 1
unfolding over next turn run_for end_from end_of trace_of traceable backtrace_of recovered answered part_of begin_of continue_of cut_at abandon_of dealt given_up run_of
computes = Type 0
