-- What the ends of a part of a run ensure.
use Rattle.std.specs.Prelude.{◌≡◌, Bool, true, ◌&&◌, ◌||◌, List, ℕ, suc, ◌-◌, ltb, leb, eqb, length, if◌then◌else◌, Err, None, Ok, Option, Result, Some}
unfoldable pub use Rattle.layout.specs.Lent.{program_lent}
use Rattle.model.specs.declared.Run.{Run}
use Rattle.model.specs.declared.Vm.{Vm}
use Rattle.model.specs.declared.Frame.{Frame}
use Rattle.model.specs.declared.Tally.{Tally}
use Rattle.model.specs.declared.Halt.TheVariants as r
use Rattle.model.specs.Values.{places, kind}
use Rattle.model.specs.Heap.{heap_of}
use Rattle.model.specs.Stores.{Stores, size, code_word}
use Rattle.model.specs.Orders.{program_ok, cells_ok, stack_ok, last_ok}
use Rattle.model.specs.Machines.{frame_room, some_last, idle, no_run}
use Rattle.run_arms.specs.declared.Fixed.{Fixed}
use Rattle.run_arms.specs.declared.Going.{Going}
use Rattle.value.specs.Links.{last_in}
use Rattle.run_steps.specs.Links.{answer_in}
use Rattle.model.specs.declared.Halt.{Halt}
use Rattle.model.specs.declared.Refusal.{Refusal}
use Rattle.model.specs.declared.Value.{Value}
use Rattle.model.specs.declared.Refusal.TheVariants as why

-- ---- good order, in parts

-- n cells, a stack of k values over them, and a last result
unfoldable pub values_ok : (texts n : ℕ) → List ℕ → (k : ℕ) → List ℕ → Option Value → Bool
values_ok t n cells k stack last = cells_ok t n cells && stack_ok t (heap_of n cells) k stack && last_ok t (heap_of n cells) last

-- the good order that a run judges, but for the frames and the run that is under way
unfoldable pub rest_order : Vm → Stores → List ℕ → List ℕ → Bool
rest_order m s stack cells =
    program_ok m.program s
    && cells_ok m.program.text m.cells cells
    && stack_ok m.program.text (heap_of m.cells cells) m.stack stack
    && last_ok m.program.text (heap_of m.cells cells) m.last

-- the counts of a run under way, beside a last result and so many cells and places of the stack
unfoldable pub counts_by : Run → Option Value → (cells slots : ℕ) → Bool
counts_by r last cells slots =
    leb r.spent r.given && leb r.returns r.spent && (eqb r.returns 0 || some_last last) && leb r.mark cells && leb r.saved slots

-- the good order of the run that is under way, if one is: the model's `part_order` in the frame f, where its code's length is read from the functions' words
unfoldable pub part_by : Vm → Frame → (slots : ℕ) → (words cells copy : List ℕ) → Bool
part_by m f slots words cells copy =
    if m.run.on then
    counts_by m.run m.last m.cells slots
    && values_ok m.program.text m.run.mark cells m.run.saved copy m.last
    && leb f.entered m.run.spent
    && ltb f.position (size (code_word words f.function))
    else idle m.run

-- ---- the setting

-- where the order is good and no run is under way, the machine with another setting
unfoldable pub set_by : (good : Bool) → Vm → (strict : Bool) → Result Vm Refusal
set_by good m strict =
    if good then
    (if m.run.on then Err why.RunUnderWay else
    Ok (record { program = m.program; stack = m.stack; frames = m.frames; cells = m.cells; last = m.last; run = m.run; strict = strict }))
    else Err why.NotInOrder

-- ---- the loop's start

-- what no step changes: u units are given in all, in stores of a words of stack and b frames
pub record FixedPost (m : Vm) (u a b : ℕ) (k : Fixed) : Type 0 where
  pub constants : k.constants ≡ m.program.constants
  pub structs : k.structs ≡ m.program.structs
  pub functions : k.functions ≡ m.program.functions
  pub slots : (s : List ℕ) → length s ≡ a → k.slots ≡ places 2 s
  pub frames : (fs : List Frame) → length fs ≡ b → k.frames ≡ frame_room fs
  pub given : k.given ≡ u
  pub strict : k.strict ≡ m.strict

-- the running machine where its run goes on, in the frame f and with e units spent
pub record Begun (m : Vm) (f : Frame) (e : ℕ) (g : Going) : Type 0 where
  pub sp : g.sp ≡ m.stack
  pub function : g.function ≡ f.function
  pub position : g.position ≡ f.position
  pub base : g.base ≡ f.base
  pub callers : g.callers ≡ m.frames - 1
  pub used : g.used ≡ m.cells
  pub spent : g.spent ≡ e
  pub last : last_in g.kind g.payload ≡ m.last
  pub mark : g.mark ≡ m.run.mark
  pub returns : g.returns ≡ m.run.returns

-- the frame f where an abandoned run was cut: the model's `cut_at`
unfoldable pub cut_frame : Vm → Frame → Frame
cut_frame m f = record {
  function = f.function;
  position = if eqb (m.run.given - m.run.spent) 0 then f.position else suc f.position;
  base = f.base;
  entered = f.entered;
}

-- ---- what a part leaves and answers

-- the machine with other counts and last result, over the same program, of the same setting, and no run under way
abbrev pub vm_with : Vm → ℕ → ℕ → ℕ → Option Value → Vm
vm_with m stack frames cells last = record { program = m.program; stack = stack; frames = frames; cells = cells; last = last; run = no_run; strict = m.strict }

-- the machine of a run that is begun
unfoldable pub vm_begun : Vm → Vm
vm_begun m = record {
  program = m.program;
  stack = m.stack;
  frames = m.frames;
  cells = m.cells;
  last = m.last;
  run = record { on = true; given = 0; spent = 0; returns = 0; mark = m.cells; saved = m.stack };
  strict = m.strict;
}

-- over at once, or paused
unfoldable pub begun_with : Vm → Frame → (words : List ℕ) → Halt
begun_with m f words =
    if leb (size (code_word words f.function)) f.position
    then r.Continue (vm_with m m.stack m.frames m.cells m.last) (record { spent = 0; returns = 0 })
    else r.Paused (vm_begun m)

-- where the running machine has completed a root Return, it has a last result
unfoldable pub Answerable : Going → Type 0
Answerable g = (eqb g.returns 0 || some_last (last_in g.kind g.payload)) ≡ true

-- the machine that a run leaves that has ended
unfoldable pub vm_ended : Vm → Going → Vm
vm_ended m g = vm_with m g.sp (suc g.callers) g.used (last_in g.kind g.payload)

unfoldable pub result_by : Option Value → Vm → Tally → Halt
result_by None m t = r.Continue m t
result_by (Some v) m t = r.Value m v t

-- what a run did
abbrev pub tally_of : Going → Tally
tally_of g = record { spent = g.spent; returns = g.returns }

unfoldable pub ended_with : Vm → Going → Halt
ended_with m g = result_by (answer_in g) (vm_ended m g) (tally_of g)

-- the machine of a run that is paused, of u units given in all: it is under way as far as it has come, and the copy of its starting stack stays
unfoldable pub vm_paused : Vm → ℕ → Going → Vm
vm_paused m u g = record {
  program = m.program;
  stack = g.sp;
  frames = suc g.callers;
  cells = g.used;
  last = last_in g.kind g.payload;
  run = record { on = true; given = u; spent = g.spent; returns = g.returns; mark = g.mark; saved = m.run.saved };
  strict = m.strict;
}

unfoldable pub paused_with : Vm → ℕ → Going → Halt
paused_with m u g = r.Paused (vm_paused m u g)

-- a run that no fault has stopped: it has ended, or it is paused
unfoldable pub settled_with : Vm → ℕ → Going → (is_paused : Bool) → Halt
settled_with m u g b = if b then paused_with m u g else ended_with m g

-- the machine that a fault leaves: the stack of the start, one frame, the mark's cells and last result
unfoldable pub vm_faulted : Vm → Going → Vm
vm_faulted m g = vm_with m m.run.saved 1 g.mark (last_in g.kind g.payload)

unfoldable pub faulted_with : Vm → Going → ℕ → Halt
faulted_with m g n = r.Fault (vm_faulted m g) n (tally_of g) (suc g.callers)
