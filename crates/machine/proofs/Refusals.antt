-- Good order, by the tests of `order`, over the slices that it is lent.
--     functions-counted        the frames can be judged
--     machine-held             the machine's good order, by its two tests
--     frame-there              the current frame is there
--     whole-held, not-held     and all of it, by the third
-- Assumes nothing.
use Rattle.std.specs.Prelude.{if◌then◌else◌}
use mathlib.Core.Path.{◌≡◌, refl, sym, ◌∙◌}
use mathlib.Core.Bool.{Bool, true, false, ◌&&◌}
use mathlib.Core.List.{List}
use Prim.Native.Nat.{ℕ, ◌-◌, ◌*◌, ◌≤◌, ◌<◌}
use native.Mathlib.Omega.{arith}
use lib.ListN.{length, get_or}
use Rattle.model.specs.declared.Vm.{Vm}
use Rattle.model.specs.declared.Frame.{Frame}
use Rattle.model.specs.Values.{places}
use Rattle.model.specs.Heap.{heap_of}
use Rattle.model.specs.Programs.{function_at}
use Rattle.model.specs.Stores.{Stores, size, code_word, functions_from, world_in}
use Rattle.model.specs.Orders.{program_ok, cells_ok, stack_ok, last_ok, frame_store_ok}
use Rattle.model.specs.Machines.{Lent, innermost, world_of, machine_order, under_order, part_order, run_order}
use Rattle.value.proofs.Coding.{and_left, and_right}
use Rattle.laws_runs.proofs.Programs.{Parts, length_functions, parts_of_lem, code_size}
use Rattle.laws_runs.proofs.Frames.{frames_in_lem}
use Rattle.frames.specs.Links.{no_frame, frames_good}
use Rattle.frames.proofs.Meaning.{frames_are_good}
use Rattle.frames.proofs.Callers.{innermost_is}
use Rattle.run_ends.specs.Links.{program_lent, values_ok, rest_order, counts_by, part_by}
use Rattle.machine.specs.Links.{run_lent}
use Rattle.machine.proofs.Granted.{functions_there, frames_there}

-- a test and then three, with two behind them, are six in a row
nested : (a b c d e f : Bool) → (a && (b && c && d) && e && f) ≡ (a && b && c && d && e && f)
nested true b c d e f = refl
nested false b c d e f = refl

module _ (m : Vm) (s : Stores) (l : Lent) where
  abbrev functions : ℕ
  functions = m.program.functions

  abbrev frame_store : Bool
  frame_store = frame_store_ok (functions_from functions 0 s) (places 2 l.stack) m.frames l.frames

  rest_order_lem : machine_order m s l ≡ (rest_order m s l.stack l.cells && frame_store)
  unfolding machine_order rest_order
  rest_order_lem = refl

  rest_program : rest_order m s l.stack l.cells ≡ true → program_ok m.program s ≡ true
  unfolding rest_order
  rest_program e =
      let program = program_ok m.program s in
      let cells = cells_ok m.program.text m.cells l.cells in
      let stack = stack_ok m.program.text (heap_of m.cells l.cells) m.stack l.stack in
      let last = last_ok m.program.text (heap_of m.cells l.cells) m.last in
      and_left program cells (and_left (program && cells) stack (and_left (program && cells && stack) last e))

  functions_fit : rest_order m s l.stack l.cells ≡ true → 2 * functions ≤ length s.functions
  unfolding places
  functions_fit e = let z = functions_there m.program s (parts_of_lem m.program s (rest_program e)) in omega arith

  -- where the rest is in good order, the frames decide
  rest_frames : rest_order m s l.stack l.cells ≡ true → machine_order m s l ≡ frames_good s.functions functions (places 2 l.stack) m.frames l.frames
  rest_frames e =
      rest_order_lem ∙ rw e
      (sym (frames_are_good s.functions functions (places 2 l.stack) (functions_from functions 0 s)
      (length_functions s functions 0) (code_size m.program s (parts_of_lem m.program s (rest_program e))) m.frames l.frames))

  held_by : (good fine : Bool) → good ≡ rest_order m s l.stack l.cells
      → fine ≡ frames_good s.functions (if good then functions else 0) (places 2 l.stack) m.frames l.frames → (good && fine) ≡ machine_order m s l
  held_by true fine g f = f ∙ sym (rest_frames (sym g))
  held_by false fine g f = sym (rest_order_lem ∙ rw (sym g))

  -- ---- a machine in good order: it stands in a frame of a known function

  module _ (held : machine_order m s l ≡ true) where
    rest : rest_order m s l.stack l.cells ≡ true
    rest = and_left (rest_order m s l.stack l.cells) frame_store (sym rest_order_lem ∙ held)

    frames : frame_store ≡ true
    frames = and_right (rest_order m s l.stack l.cells) frame_store (sym rest_order_lem ∙ held)

    parts : Parts m.program s
    parts = parts_of_lem m.program s (rest_program rest)

    abbrev here : Frame
    here = get_or l.frames (m.frames - 1) no_frame

    here_is : innermost m.frames l.frames ≡ here
    here_is = innermost_is m.frames l.frames refl

    here_there : m.frames - 1 < length l.frames
    here_there = (frames_there (functions_from functions 0 s) (places 2 l.stack) m.frames l.frames frames).1

    its_code : length (function_at (functions_from functions 0 s) here.function).code ≡ size (code_word s.functions here.function)
    unfolding world_of world_in
    its_code =
        let known = rw here_is at (frames_in_lem (world_of m s l) m.frames l.frames frames).frame.known in
        code_size m.program s parts here.function (omega (arith, length_functions s functions 0))

    -- the run that is under way, if one is, is judged by the functions' words
    part_judged : part_by m here (places 2 l.stack) s.functions l.cells l.copy ≡ part_order m s l
    unfolding part_by part_order under_order counts_by values_ok
    part_judged =
        rw (here_is, its_code, nested (counts_by m.run m.last m.cells (places 2 l.stack)) _ _ _ _ _)

    whole_is : {whole : Bool} → whole ≡ part_by m here (places 2 l.stack) s.functions l.cells l.copy → whole ≡ run_order m s l
    unfolding run_order
    whole_is e = rw held (e ∙ part_judged)

  bad_is : machine_order m s l ≡ false → machine_order m s l ≡ run_order m s l
  unfolding run_order
  bad_is e = rw e

-- ---- over the slices

module _ (m : Vm) (structs constants functions text main main_places other other_places stack cells : List ℕ) (frames : List Frame) (copy backtrace : List ℕ) where
  abbrev stores : Stores
  stores = program_lent structs constants functions text main main_places other other_places

  abbrev lent : Lent
  lent = run_lent stack cells frames copy backtrace

  pub functions_counted : (good : Bool) → good ≡ rest_order m stores stack cells → 2 * (if good then m.program.functions else 0) ≤ length functions
  unfolding program_lent run_lent
  functions_counted true e = functions_fit m stores lent (sym e)
  functions_counted false e = omega arith

  pub machine_held : (good fine : Bool) → good ≡ rest_order m stores stack cells
      → fine ≡ frames_good functions (if good then m.program.functions else 0) (places 2 stack) m.frames frames → (good && fine) ≡ machine_order m stores lent
  unfolding program_lent run_lent
  machine_held good fine g f = held_by m stores lent good fine g f

  module _ (held : machine_order m stores lent ≡ true) where
    pub frame_there : m.frames - 1 < length frames
    unfolding run_lent
    frame_there = here_there m stores lent held

    pub whole_held : {whole : Bool} → whole ≡ part_by m (get_or frames (m.frames - 1) no_frame) (places 2 stack) functions cells copy → whole ≡ run_order m stores lent
    unfolding program_lent run_lent
    whole_held e = whole_is m stores lent held e

  pub not_held : {held : Bool} → held ≡ machine_order m stores lent → held ≡ false → held ≡ run_order m stores lent
  not_held e f = e ∙ bad_is m stores lent (sym e ∙ f)
