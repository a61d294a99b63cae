-- WHAT IS SAID of a program that passed the check.
use Rattle.std.specs.Prelude.{◌≡◌, Bool, true, false, ◌||◌, ◌&&◌, List, [], ◌∷◌, ℕ, ◌+◌, ◌≤◌, ◌<◌, eqb, leb, length}
use Rattle.model.specs.declared.Fault.{Fault}
use Rattle.model.specs.declared.Fault.TheVariants as f
use Rattle.model.specs.declared.Frame.{Frame}
use Rattle.model.specs.declared.Tally.{Tally}
use Rattle.model.specs.Values.{fault_number}
use Rattle.model.specs.Programs.{Program, opcode_in}
use Rattle.model.specs.Steps.{World, State, position, faulted, step_of}
use Rattle.model.specs.Steps as steps
use Rattle.model.specs.Runs.{Machine, Progress, Entry, fault, begin, over, root, run_of}
use Rattle.laws_runs.specs.Paths.{Steps}
use Rattle.laws_runs.specs.Demand.{Recovered}
use Rattle.check_rules.specs.Rules.{Greatest, code_of, count_of, is_main}
use Rattle.laws_check.specs.Row.{Unsure}
use Rattle.laws_check.specs.Good.{Serves}

-- "run on a freshly loaded machine": nothing on the stack, and one frame at the start of main. Its cells and its last result are any
pub record JustLoaded (m : Machine) : Type 0 where
  pub stack : m.stack ≡ []
  pub frame : m.frame ≡ root 0
  pub callers : m.callers ≡ []

-- a state that the written steps of such a run come to, in any world of the program, strict or not, and with any units
pub record Comes (p : Program) (w : World) (s : State) : Type 0 where
  pub serves : Serves p w
  pub machine : Machine
  pub loaded : JustLoaded machine
  pub units : ℕ
  pub count : ℕ
  pub before : Progress
  pub after : Progress
  pub path : Steps w count before (begin machine units) after s

-- "faults 1 to 4 and 14"
unfoldable pub ruled_out : ℕ → Bool
ruled_out n = (leb 1 n && leb n 4) || eqb n 14

-- a run comes to s, is not over there, and its next step faults by n
pub record Meets (p : Program) (w : World) (s : State) (n : Fault) : Type 0 where
  pub comes : Comes p w s
  pub inside : position s < length (steps.code_of w s)
  pub left : State
  pub step : step_of w s ≡ faulted n left

-- "faults 1 to 4 and 14 never come"
abbrev pub NeverFaultsSo : Program → Type 0
NeverFaultsSo p = (w : World) (s : State) (n : Fault) → Meets p w s n → ruled_out (fault_number n) ≡ false

-- "and 6 comes only from GetUpvalue or a field"
abbrev pub AsksInRange : Program → Type 0
AsksInRange p = (w : World) (s : State) → Meets p w s f.OutOfRange → Unsure (opcode_in (steps.code_of w s) (position s)).what

-- a frame's part of the stack, from its base to where the next inner frame's begins or the stack ends, is at most the greatest height of its function
pub record Part (p : Program) (r : Frame) (end : ℕ) : Type 0 where
  pub known : r.function < length p.functions
  pub begins : r.base ≤ end
  pub fits : (m : ℕ) → Greatest (is_main r.function) (count_of p r.function) (code_of p r.function) m → end ≤ r.base + m

unfoldable pub Parts : Program → List Frame → (end : ℕ) → Type 0
Parts p [] end = Unit
Parts p (r ∷ rs) end = Part p r end × Parts p rs r.base

-- "It also gives each function's greatest height, which no frame of it exceeds"
abbrev pub FramesWithin : Program → Type 0
FramesWithin p = (w : World) (s : State) → Comes p w s → Parts p (s.frame ∷ s.callers) (length s.stack)

-- "no path reaches the end of a function other than main": a run that is over stands in main, so that no other function is left by its end
abbrev pub EndsInMain : Program → Type 0
EndsInMain p = (w : World) (s : State) → Comes p w s → over w s ≡ true → s.frame.function ≡ 0

-- ---- whatever a whole run answers, on a machine that is strict or not: the check asks nothing of the setting, and 26 is not ruled out

-- "For a passed program, run on a freshly loaded machine, faults 1 to 4 and 14 never come"
abbrev pub RunsSo : Program → Type 0
RunsSo p = (w : World) → Serves p w → (m : Machine) → JustLoaded m → (u n : ℕ) (did : Tally) (trace : List Entry) → (run_of w m u).reply ≡ fault n did trace → ruled_out n ≡ false

-- the step that stopped the run with fault 6 is one of those two
pub record Asked (w : World) (m : Machine) (u : ℕ) (did : Tally) (trace : List Entry) : Type 0 where
  pub run : Recovered w m u 6 did trace
  pub opcode : Unsure (opcode_in (steps.code_of w run.at) (position run.at)).what

-- "and 6 comes only from GetUpvalue or a field"
abbrev pub RunsAskInRange : Program → Type 0
RunsAskInRange p = (w : World) → Serves p w → (m : Machine) → JustLoaded m → (u : ℕ) (did : Tally) (trace : List Entry) → (run_of w m u).reply ≡ fault 6 did trace → Asked w m u did trace
