-- What is said of a list or struct, and which machine there is behind an answer: the one that it tells, or the one that was.
use Rattle.std.specs.Prelude.{false, List, ℕ, ◌/◌, ltb, length, if◌then◌else◌, Err, None, Ok, Option, Result, Some, unwrap_or}
use Rattle.model.specs.declared.Header.{Header}
use Rattle.model.specs.declared.Tally.{Tally}
use Rattle.model.specs.declared.Vm.{Vm}
use Rattle.model.specs.declared.Halt.TheVariants as x
use Rattle.model.specs.Values.{payload_at}
use Rattle.model.specs.Heap.{header_of}
use Rattle.model.specs.Machines.{no_run}
use Rattle.console_frames.specs.declared.Answer.{Answer}
use Rattle.console_frames.specs.declared.Answer.TheVariants as a
use Rattle.console_damage.specs.Damage.{with_program}
use Rattle.model.specs.declared.Counts.{Counts}
use Rattle.model.specs.declared.Halt.{Halt}
use Rattle.model.specs.declared.Refusal.{Refusal}

-- the header at cell p, of no elements where there is no such cell
unfoldable pub header_in : List ℕ → ℕ → Header
header_in cells p = if ltb p (length cells / 2) then header_of (payload_at cells p) else record { count = 0; number = 0; depth = 0 }

-- before any is made: nothing is in good order yet
unfoldable pub no_machine : Vm
no_machine = record { program = record { constants = 0; structs = 0; functions = 0; text = 0; current = 0 }; stack = 0; frames = 0; cells = 0; last = None; run = no_run; strict = false }

-- none: the line was not known
unfoldable pub after_emitted : Vm → Option (Result (Counts × ℕ) Refusal) → Vm
after_emitted m None = m
after_emitted m (Some (Ok (c, n))) = with_program m c
after_emitted m (Some (Err e)) = m

unfoldable pub after_started : Vm → Result Vm Refusal → Vm
after_started m (Ok made) = made
after_started m (Err e) = m

-- what the run that is under way has done so far
unfoldable pub so_far : Vm → Tally
so_far m = record { spent = m.run.spent; returns = m.run.returns }

unfoldable pub after_run : Vm → Result Halt Refusal → Vm
after_run m (Ok (x.Value left v spent)) = left
after_run m (Ok (x.Continue left spent)) = left
after_run m (Ok (x.Fault left n spent entries)) = left
after_run m (Ok (x.Paused left)) = left
after_run m (Err e) = m

-- with the setting that was asked, or as it was
unfoldable pub after_set : Vm → Result Vm Refusal → Vm
after_set m (Ok set) = set
after_set m (Err e) = m

-- a backtrace leaves the machine as it was
unfoldable pub after_answer : Vm → Answer → Vm
after_answer m (a.Made r) = after_started m r
after_answer m (a.Ran r) = after_run m r
after_answer m (a.Traced t) = m
after_answer m (a.Set x) = after_set m x

-- damage that was understood
unfoldable pub after_damage : Vm → Option Vm → Vm
after_damage m d = unwrap_or d m
