-- Demand 3: what a run that ends in a fault or is abandoned leaves, and that no later answer tells it from a machine set up so by hand.
use Rattle.std.specs.Prelude.{◌≡◌, true, false, List, map, ℕ, ◌*◌, length, get_or, Option, Some}
use Rattle.model.specs.declared.Value.{Value}
use Rattle.model.specs.declared.Vm.{Vm}
use Rattle.model.specs.declared.Tally.{Tally}
use Rattle.model.specs.Heap.{Cell, heap_of}
use Rattle.model.specs.Programs.{function_at}
use Rattle.model.specs.Steps.{World, State, returned, step_of}
use Rattle.model.specs.Runs.{Machine, begin, Progress, over, root, Entry, recovered}
use Rattle.model.specs.Stores.{Stores}
use Rattle.model.specs.Machines.{Lent, machine_in, world_of, run_order, no_run}
use Rattle.laws_runs.specs.Ordered.{CodeBytes}
use Rattle.laws_runs.specs.Sane.{Faults}
use Rattle.laws_runs.specs.Paths.{Steps}
use Rattle.laws_runs.specs.Entered.{entered_in, noted_along}
use Rattle.laws_runs.specs.Demand.{Quiet, Recovered}
use Rattle.demands.specs.Host.{Held, Call, Answer, Chain}
use Rattle.demands.specs.Jobs.{anew, AllTyped}
use Rattle.demands.specs.Agree.{Alike, Rooms}
use Rattle.demands.specs.Meant.{AlikeHeld, said}

-- the last result and the cells that are kept of a run from s that was cut in t
pub data Kept (w : World) (s t : State) : Option Value → List Cell → Type 0 where
  -- no root Return was completed: the former ones
  start : Quiet w s t → Kept w s t s.last s.heap
  -- those of the last root Return completed before the cut, which returned v
  return : {n : ℕ} {m k : Progress} {q q' : State} {v : Value} → Steps w n m s k q → over w q ≡ false → step_of w q ≡ returned v q' → Quiet w q' t → Kept w s t (Some v) q'.heap

-- a run that was begun by m and given u units in all, in however many parts; it answered fault n, or was abandoned, with what it did and a backtrace, and left
-- m'. The program's stores are only read.
pub record Recovers (m : Vm) (s : Stores) (l : Lent) (u : ℕ) (m' : Vm) (n : ℕ) (did : Tally) (trace : List Entry) (l' : Lent) : Type 0 where
  -- the written steps up to the cut, and the step that faulted there
  pub rules : Recovered (world_of m s l) (machine_in m l) u n did trace
  -- the backtrace tells of each frame how many units were spent when the step that entered it had completed
  pub entered : map (λ (e : Entry). e.entered) trace ≡ noted_along rules.path (entered_in (begin (machine_in m l) u))
  -- the stack of its start, word by word
  pub height : m'.stack ≡ m.stack
  pub stack : Alike (2 * m.stack) l'.stack l.stack
  -- one frame: function 0, base 0, position at the end of main, entered at 0
  pub frames : m'.frames ≡ 1
  pub frame : get_or l'.frames 0 (root 0) ≡ root (length (function_at (world_of m s l).functions 0).code)
  -- unchanged code and constants, the setting kept, and no run is under way
  pub program : m'.program ≡ m.program
  pub strict : m'.strict ≡ m.strict
  pub run : m'.run ≡ no_run
  -- the last result is that of the last root Return completed before the cut, or the former one; so are the cells
  pub kept : Kept (world_of m s l) (begin (machine_in m l) u) rules.at m'.last (heap_of m'.cells l'.cells)
  -- all at once: the machine that is left, by the rules; and it is in good order
  pub leaves : machine_in m' l' ≡ recovered (world_of m s l) (machine_in m l).stack rules.kept
  pub order : run_order m' s l' ≡ true
  -- the step that faulted has dropped and added no frame, and its backtrace stands
  pub traced : CodeBytes s → Faults (world_of m s l) rules.at rules.after

-- a machine set up as x beside h in the same words: the same program stores, the same setting, lent stores of the same lengths and so the same free cells, in
-- good order, and no run under way
pub record SetUp (x : Machine) (h d : Held) : Type 0 where
  pub program : d.vm.program ≡ h.vm.program
  pub strict : d.vm.strict ≡ h.vm.strict
  pub stores : d.stores ≡ h.stores
  pub rooms : Rooms d.lent h.lent
  pub machine : machine_in d.vm d.lent ≡ x
  pub run : d.vm.run ≡ no_run
  pub order : run_order d.vm d.stores d.lent ≡ true

-- DEMAND 3, of a run that was begun by what a host holds in h, a machine strict or not, and given u units in all; it answered fault n, or was abandoned,
-- with what it did and a backtrace, and left h'
pub record Demand3 (u : ℕ) (h : Held) (n : ℕ) (did : Tally) (trace : List Entry) (h' : Held) : Type 0 where
  pub leaves : Recovers h.vm h.stores h.lent u h'.vm n did trace h'.lent
  -- whatever calls come then, new code included and the same for both: they say what they say of any machine d that was set up in that state with the same free cells
  pub later : {d : Held} {calls : List Call} → AlikeHeld (anew calls) h' d → AllTyped calls → {xs ys : List Answer} {e f : Held} (p : Chain calls h' xs e) (q : Chain calls d ys f) → said p ≡ said q
  -- and where it was set up in the same words, the answers are the same words
  pub exact : (d : Held) → SetUp (recovered (world_of h.vm h.stores h.lent) (machine_in h.vm h.lent).stack leaves.rules.kept) h d
      → (calls : List Call) (xs ys : List Answer) (e f : Held) → Chain calls h' xs e → Chain calls d ys f → xs ≡ ys
