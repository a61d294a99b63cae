-- A run that is stopped, by a fault or where it is abandoned: its backtrace is written, and the machine recovers.
--     Stops                                what is at hand where a run is stopped
--     callers-small, callers-there         its counts are within bounds
--     trace-ready, frame-there             its backtrace and its frame can be written
--     run-stopped                          the call's contract
-- Assumes nothing.
use Rattle.std.specs.Prelude.{Ok}
use mathlib.Core.Path.{◌≡◌, refl, sym, ap, ◌∙◌}
use mathlib.Core.Bool.{true}
use mathlib.Core.List.{List, [], ◌∷◌}
use Prim.Native.Nat.{ℕ, suc, ◌-◌, ◌*◌, ◌≤◌, ◌<◌, ◌^◌}
use native.Mathlib.Omega.{arith}
use lib.ListN.{length, get_or, set, take, length-set}
use lib.Seq.{get_or-set_same, length-sets}
use Rattle.model.specs.declared.Vm.{Vm}
use Rattle.model.specs.declared.Value.{Value}
use Rattle.model.specs.declared.Frame.{Frame}
use Rattle.model.specs.Basics.{written}
use Rattle.model.specs.Values.{places, vals}
use Rattle.model.specs.Heap.{exact_cells}
use Rattle.model.specs.Programs.{Function, function_at}
use Rattle.model.specs.Steps.{World}
use Rattle.model.specs.Runs.{root, trace_of, traceable, recovered, fault, ends}
use Rattle.model.specs.Stores.{Stores, size, code_word, functions_from, world_in}
use Rattle.model.specs.Machines.{Lent, frame_room, innermost, callers_in, machine_in, world_of, RunCall, entry_words, trace_of_reply, trace_of_part, entries_in, SameRooms, RunPost}
use Rattle.laws_runs.specs.Parts.{SaneMachine}
use Rattle.laws_runs.specs.Ordered.{Exact}
use Rattle.laws_runs.proofs.Programs.{Parts, parts_of_lem, has_main, code_size}
use Rattle.laws_runs.proofs.Ordered.{order_of_lem}
use Rattle.frames.specs.Links.{no_frame, callers_of, trace_words, TraceFits}
use Rattle.frames.proofs.Callers.{innermost_is, callers_are, length_callers}
use Rattle.run_arms.specs.declared.Going.{Going}
use Rattle.run_steps.specs.Links.{progress_in}
use Rattle.run_ends.specs.Links.{tally_of, vm_faulted, faulted_with}
use Rattle.run_ends.proofs.Ruled.{a_fault_leaves_the_recovered_machine, a_fault_answers_by_the_rules}
use Rattle.machine.specs.Links.{run_lent, Granted}
use Rattle.machine.proofs.Copies.{copied_at, same_kind, same_payload, same_vals}
use Rattle.machine.proofs.Granted.{Saved}
use Rattle.machine.proofs.Traced.{traced_first, traced_at, readable, trace_told, length_trace, entries_told}
use Rattle.machine.proofs.Leaves.{comes_to, copy_left, posted, leaves_idle}

-- in the frame f
module _ (c : RunCall) (m : Vm) (s : Stores) (l : Lent) (now : Going) (f : Frame) (n : ℕ) (stack cells : List ℕ) (frames : List Frame) where
  abbrev world : World
  world = world_of m s l

  abbrev functions : List Function
  functions = functions_from m.program.functions 0 s

  abbrev start : List Value
  start = vals m.run.saved l.copy

  abbrev callers : List Frame
  callers = callers_of now.callers frames

  -- what is at hand: it comes to this answer, by the rules; its backtrace stands, and the machine that it leaves is in good order
  pub record Stops : Type 0 where
    pub granted : Granted c m s l
    pub saved : Saved m l
    pub long : frame_room l.frames ≤ places 3 l.backtrace
    pub copy_stays : l.copy ≡ copy_left m l c
    pub answer : comes_to m s l c ≡ ends (record {
      reply = fault n (tally_of now) (trace_of functions (f ∷ callers));
      machine = recovered world start (progress_in now cells);
    })
    pub traced : traceable functions (f ∷ callers) ≡ true
    pub sane : SaneMachine world (recovered world start (progress_in now cells))
    pub exact_cells : exact_cells now.mark 0 cells ≡ true
    pub few : now.callers < frame_room l.frames
    pub stack_room : length stack ≡ length l.stack
    pub cell_room : length cells ≡ length l.cells
    pub frames_room : length frames ≡ length l.frames

  module _ (h : Stops) where
    parts : Parts m.program s
    parts = parts_of_lem m.program s (order_of_lem m s l h.granted.order).program

    pub callers_small : now.callers < 2 ^ 32
    unfolding frame_room
    callers_small = let z = h.few in omega arith

    pub callers_there : now.callers < length frames
    unfolding frame_room
    callers_there = let z = h.few in omega (arith, h.frames_room)

    pub frame_there : 0 < length frames
    frame_there = let z = callers_there in omega arith

    pub stack_there : 2 * m.run.saved ≤ length stack
    stack_there = omega (arith, h.stack_room, h.saved.back)

    pub trace_ready : TraceFits s.functions s.main_places s.other_places f now.callers frames (length l.backtrace)
    unfolding frame_room places
    trace_ready =
        let (first, rest) = traced_first functions f callers h.traced in
        let z = h.few in
        let y = h.long in
        record {
          fits = omega arith;
          there = let y = callers_there in omega arith;
          first = readable m.program s parts f first;
          each = (λ i l. readable m.program s parts (get_or frames i no_frame) (traced_at functions now.callers frames rest i l));
        }

    -- ---- what is left

    abbrev frames_left : List Frame
    frames_left = set frames 0 (root (size (code_word s.functions 0)))

    abbrev stack_left : List ℕ
    stack_left = written stack 0 (take (2 * m.run.saved) l.copy)

    abbrev told : List ℕ
    told = written l.backtrace 0 (trace_words s.functions s.main_places s.other_places (f ∷ callers))

    abbrev left : Lent
    left = run_lent stack_left cells frames_left l.copy told

    same_words : (i : ℕ) → i < 2 * m.run.saved → get_or stack_left i 0 ≡ get_or l.copy i 0
    same_words = copied_at (2 * m.run.saved) l.copy stack h.saved.copy stack_there

    stack_put_back : vals m.run.saved stack_left ≡ start
    stack_put_back = same_vals m.run.saved stack_left l.copy same_words

    main_put : innermost 1 frames_left ≡ root (length (function_at world.functions 0).code)
    unfolding world_of world_in
    main_put =
        innermost_is 1 frames_left (omega arith) ∙ get_or-set_same frames 0 (root (size (code_word s.functions 0))) no_frame frame_there
        ∙ ap root (sym (code_size m.program s parts 0 (has_main m.program s parts)))

    no_callers : callers_in 1 frames_left ≡ []
    unfolding callers_of
    no_callers = let z : 1 - 1 ≡ 0 = omega arith in callers_are 1 frames_left z (omega arith)

    recovers : machine_in (vm_faulted m now) left ≡ recovered world start (progress_in now cells)
    unfolding run_lent
    recovers = a_fault_leaves_the_recovered_machine m now left world stack_put_back main_put no_callers

    rooms : SameRooms l left
    unfolding run_lent written
    rooms = record {
      stack = length-sets stack 0 (take (2 * m.run.saved) l.copy) ∙ h.stack_room;
      cells = h.cell_room;
      frames = length-set frames 0 (root (size (code_word s.functions 0))) ∙ h.frames_room;
    }

    exact : Exact (vm_faulted m now) left
    unfolding vm_faulted run_lent
    exact = record {
      cells = h.exact_cells;
      stack = (λ i z.
          rw (same_kind m.run.saved stack_left l.copy same_words i z, same_payload m.run.saved stack_left l.copy same_words i z) (h.saved.exact i z));
      frames = omega arith;
    }

    -- ---- the backtrace, as it is told and as it is read

    told_words_lem : trace_words s.functions s.main_places s.other_places (f ∷ callers) ≡ entry_words (trace_of functions (f ∷ callers))
    told_words_lem = trace_told m.program s parts (f ∷ callers) h.traced

    told_entries : entries_in (suc now.callers) 0 told ≡ trace_of functions (f ∷ callers)
    told_entries =
        let es = trace_of functions (f ∷ callers) in
        let k : length es ≡ suc now.callers = length_trace functions (f ∷ callers) ∙ ap suc (length_callers now.callers frames) in
        let z = trace_ready.fits in
        rw (told_words_lem, sym k) (entries_told es l.backtrace (omega arith))

    pub run_stopped : RunPost c m s l (Ok (faulted_with m now n)) left
    run_stopped =
        posted m s l c h.granted h.answer (Ok (faulted_with m now n)) left
        (unfold run_lent in a_fault_answers_by_the_rules m now left world stack_put_back main_put no_callers n told_entries)
        (unfold run_lent in h.copy_stays)
        (unfold run_lent trace_of_reply trace_of_part in rw told_words_lem)
        rooms
        (unfold faulted_with in leaves_idle s h.granted.order
        (unfold vm_faulted in record { program = refl; strict = refl; stack = rooms.stack; cells = rooms.cells; frames = rooms.frames })
        exact
        (unfold vm_faulted in refl)
        (rw recovers h.sane))
