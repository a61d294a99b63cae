-- Good order as a run judges it, in parts; and what a machine needs to be in good order beside one that is.
use Rattle.std.specs.Prelude.{◌≡◌, true, ◌||◌, ℕ, ◌≤◌, ◌<◌, eqb, length, get_or, None}
use Rattle.model.specs.declared.Vm.{Vm}
use Rattle.model.specs.Values.{places, kind_at, payload_at, exact_value}
use Rattle.model.specs.Heap.{heap_of, exact_cells}
use Rattle.model.specs.Runs.{root}
use Rattle.model.specs.Programs.{function_at}
use Rattle.model.specs.Stores.{Stores, functions_from}
use Rattle.model.specs.Orders.{program_ok, cells_ok, stack_ok, last_ok, frame_store_ok}
use Rattle.model.specs.Machines.{Lent, innermost, some_last, part_order, no_run}

-- what the type of a byte slice says of the two code stores
pub record CodeBytes (s : Stores) : Type 0 where
  pub main : (j : ℕ) → j < length s.main → get_or s.main j 0 < 256
  pub other : (j : ℕ) → j < length s.other → get_or s.other j 0 < 256

-- all that a run judges: the program, then the machine's four parts, and the run that is under way
pub record Ordered (m : Vm) (s : Stores) (l : Lent) : Type 0 where
  pub program : program_ok m.program s ≡ true
  pub cells : cells_ok m.program.text m.cells l.cells ≡ true
  pub stack : stack_ok m.program.text (heap_of m.cells l.cells) m.stack l.stack ≡ true
  pub last : last_ok m.program.text (heap_of m.cells l.cells) m.last ≡ true
  pub frames : frame_store_ok (functions_from m.program.functions 0 s) (places 2 l.stack) m.frames l.frames ≡ true
  pub part : part_order m s l ≡ true

-- what is judged of a run under way
pub record UnderOrdered (m : Vm) (s : Stores) (l : Lent) : Type 0 where
  pub spent : m.run.spent ≤ m.run.given
  pub returns : m.run.returns ≤ m.run.spent
  pub answer : (eqb m.run.returns 0 || some_last m.last) ≡ true
  pub mark : m.run.mark ≤ m.cells
  pub saved : m.run.saved ≤ places 2 l.stack
  pub cells : cells_ok m.program.text m.run.mark l.cells ≡ true
  pub copy : stack_ok m.program.text (heap_of m.run.mark l.cells) m.run.saved l.copy ≡ true
  pub last : last_ok m.program.text (heap_of m.run.mark l.cells) m.last ≡ true
  pub entered : (innermost m.frames l.frames).entered ≤ m.run.spent
  pub inside : (innermost m.frames l.frames).position
      < length (function_at (functions_from m.program.functions 0 s) (innermost m.frames l.frames).function).code

-- the words below the counts are exactly those of their values and cells, and there is a frame
pub record Exact (m : Vm) (l : Lent) : Type 0 where
  pub cells : exact_cells m.cells 0 l.cells ≡ true
  pub stack : (i : ℕ) → i < m.stack → exact_value (kind_at l.stack i) (payload_at l.stack i) ≡ true
  pub frames : 1 ≤ m.frames

-- m' over l' beside m over l: the same program and setting, and stores of the same lengths
pub record Beside (m : Vm) (l : Lent) (m' : Vm) (l' : Lent) : Type 0 where
  pub program : m'.program ≡ m.program
  pub strict : m'.strict ≡ m.strict
  pub stack : length l'.stack ≡ length l.stack
  pub cells : length l'.cells ≡ length l.cells
  pub frames : length l'.frames ≡ length l.frames

-- a machine that has not run: nothing on the stack, no cells, no last result, and one frame at the start of main, which is written
pub record Fresh (m : Vm) (l : Lent) : Type 0 where
  pub stack : m.stack ≡ 0
  pub cells : m.cells ≡ 0
  pub last : m.last ≡ None
  pub frames : m.frames ≡ 1
  pub run : m.run ≡ no_run
  pub room : 1 ≤ length l.frames
  pub frame : get_or l.frames 0 (root 0) ≡ root 0
