-- A part of a run to its end: what the entry has done is what the rules say of the part.
--     Came                                          what is at hand when the loop has ended
--     callers-small, callers-there                  its counts are within bounds
--     answerable                                    it has a last result, where it has completed a root Return
--     run_settled                                   the entry's contract where no fault has stopped the run
--     stops                                         and what is at hand where one has
-- Assumes nothing.
use mathlib.Core.Path.{◌≡◌, refl, sym, subst, ◌∙◌}
use mathlib.Core.Bool.{true, false}
use mathlib.Core.List.{List, []}
use Prim.Native.Nat.{ℕ, suc, ◌+◌, ◌-◌, ◌<◌, ◌^◌}
use native.Mathlib.Omega.{arith}
use lib.Dec.{eqb}
use lib.ListN.{length, get_or, set, length-set}
use lib.Seq.{get_or-set_same}
use Rattle.model.specs.declared.Vm.{Vm}
use Rattle.model.specs.declared.Value.{Value}
use Rattle.model.specs.declared.Fault.{Fault}
use Rattle.model.specs.declared.Frame.{Frame}
use Rattle.model.specs.declared.Tally.{Tally}
use Rattle.model.specs.Basics.{written}
use Rattle.model.specs.Values.{fault_number, vals}
use Rattle.model.specs.Steps.{World, State, with_units}
use Rattle.model.specs.Runs.{machine_of, Ended, ended, paused, end_from, answered, part_of, continue_of}
use Rattle.model.specs.Stores.{Stores, world_in}
use Rattle.model.specs.Machines.{Lent, frame_room, innermost, callers_in, machine_in, under_in, world_of, continues, entry_words, trace_of_reply, trace_of_part, SameRooms, Leaves, Left, RunPost}
use Rattle.cells.proofs.Stands.{exact_cut}
use Rattle.laws_runs.specs.Paths.{Steps, EndedBy, StoppedBy, PausedBy}
use Rattle.laws_runs.specs.Parts.{SaneUnder, SaneMachine, SanePart}
use Rattle.laws_runs.proofs.Paths.{run_path, a_run_has_a_value_exactly_behind_a_root_return}
use Rattle.laws_runs.proofs.Ordered.{order_under, answer_to}
use Rattle.frames.specs.Links.{no_frame, callers_of}
use Rattle.run_arms.specs.declared.Fixed.{Fixed}
use Rattle.run_arms.specs.declared.Going.{Going}
use Rattle.run_arms.specs.Links.{frame_in}
use Rattle.run_arms.proofs.Keeping.{exact_at_lem}
use Rattle.run_steps.specs.Links.{answer_in, progress_in}
use Rattle.run_loop.specs.declared.Course.{Course}
use Rattle.run_loop.specs.declared.Turn.TheVariants as t
use Rattle.run_loop.specs.Links.{stands_paused, stands, Ends, over, pause, stop, TurnsPost}
use Rattle.value.specs.Links.{last_in}
use Rattle.run_ends.specs.Links.{Answerable, vm_ended, result_by, tally_of, ended_with, vm_paused, paused_with, settled_with}
use Rattle.run_ends.proofs.Ruled.{an_end_leaves_the_machine_as_it_stands, an_end_answers_by_the_rules, a_paused_run_is_under_way, a_pause_answers_by_the_rules}
use Rattle.run_ends.proofs.Leaving.{PausedExact}
use Rattle.machine.specs.Links.{run_lent, Granted}
use Rattle.frames.proofs.Callers.{innermost_is, callers_are, callers_kept}
use Rattle.machine.proofs.Granted.{Saved, saved_of, trace_long}
use Rattle.machine.proofs.Begins.{Begins, begins_end}
use Rattle.machine.proofs.Leaves.{comes_to, posted, part_sane, leaves_idle, leaves_under}
use Rattle.machine.proofs.Stops.{Stops}
use Rattle.std.specs.Prelude.{None, Option, Some, Ok}

pub record Came (m : Vm) (s : Stores) (l : Lent) (u : ℕ) (k : Fixed) (g : Going) (c : Course) (stack cells : List ℕ) (frames : List Frame) : Type 0 where
  pub begins : Begins m s l u k g
  pub turns : TurnsPost (world_of m s l) k g (get_or l.frames (m.frames - 1) no_frame).entered l.stack l.cells l.frames c stack cells frames
  pub stack_room : length stack ≡ length l.stack
  pub cell_room : length cells ≡ length l.cells
  pub frames_room : length frames ≡ length l.frames

-- ---- answers

result_left : (s : Stores) (l l' : Lent) (a : Option Value) (m : Vm) (n : Tally) → Leaves false m s l' → Left s l (Ok (result_by a m n)) l'
unfolding result_by
result_left s l l' None m n e = e
result_left s l l' (Some x) m n e = e

-- a run that has ended writes no backtrace
no_trace : (a : Option Value) (n : Tally) → entry_words (trace_of_reply (answered a n)) ≡ []
unfolding entry_words trace_of_reply answered
no_trace None n = refl
no_trace (Some x) n = refl

-- ---- a run that was granted

module _ (m : Vm) (s : Stores) (l : Lent) (u : ℕ) (k : Fixed) (g : Going) (c : Course) (stack cells : List ℕ) (frames : List Frame) (h : Came m s l u k g c stack cells frames) where
  abbrev now : Going
  now = c.going

  abbrev world : World
  world = world_of m s l

  abbrev given : ℕ
  given = m.run.given + u

  abbrev start : List Value
  start = vals m.run.saved l.copy

  -- the frame that it has come to, and its callers
  abbrev here : Frame
  here = frame_in now c.entered

  abbrev callers : List Frame
  callers = callers_of now.callers frames

  abbrev state : State
  state = stands k c stack cells frames

  abbrev part_end : Ended
  part_end = end_from world (under_in m l).progress (with_units ((under_in m l).state.units + u) (under_in m l).state)

  granted : Granted (continues u) m s l
  granted = h.begins.granted

  saved : Saved m l
  saved = saved_of m s l granted.order granted.fits.0

  came : Ends world k part_end c stack cells frames
  came = rw (begins_end m s l u k g h.begins) h.turns.ends

  -- the part that it comes to
  part_is : (e : Ended) → part_end ≡ e → comes_to m s l (continues u) ≡ part_of world start given e
  unfolding continue_of
  part_is e q = rw q (unfold under_in in refl)

  few_callers : now.callers < frame_room l.frames
  few_callers = let z = h.turns.fits.stack.callers in omega (arith, h.begins.fixed.frames)

  pub callers_small : now.callers < 2 ^ 32
  unfolding frame_room
  callers_small = let z = few_callers in omega arith

  pub callers_there : now.callers < length frames
  unfolding frame_room
  callers_there = let z = few_callers in omega (arith, h.frames_room)

  told : {n : ℕ} {t : State} → Steps world n (under_in m l).progress (with_units ((under_in m l).state.units + u) (under_in m l).state) (progress_in now cells) t → Answerable now
  unfolding Answerable answer_in
  told p =
      answer_to (eqb now.returns 0) (last_in now.kind now.payload)
      (a_run_has_a_value_exactly_behind_a_root_return world (order_under m s l granted.order granted.fits.0).answer p)

  answers_by : Ends world k part_end c stack cells frames → Answerable now
  answers_by (over n e z) = let r : EndedBy world _ _ _ _ = run_path world _ _ e in told r.path
  answers_by (pause n e z o) = let r : PausedBy world _ _ _ _ = run_path world _ _ e in told r.path
  answers_by (stop x n e t) = let r : StoppedBy world _ _ _ _ _ = run_path world _ _ e in told r.path

  pub answerable : Answerable now
  answerable = answers_by came

  -- ---- no fault has stopped it: the current frame is put to its callers

  abbrev frames_left : List Frame
  frames_left = set frames now.callers here

  abbrev left : Lent
  left = run_lent stack cells frames_left l.copy l.backtrace

  one_less : suc now.callers - 1 ≡ now.callers
  one_less = omega arith

  current_put : innermost (suc now.callers) frames_left ≡ here
  current_put = innermost_is (suc now.callers) frames_left one_less ∙ get_or-set_same frames now.callers here no_frame callers_there

  callers_stay : callers_in (suc now.callers) frames_left ≡ callers
  callers_stay =
      let there = callers_there in
      callers_are (suc now.callers) frames_left one_less (omega (arith, length-set frames now.callers here))
      ∙ callers_kept now.callers now.callers frames here (omega arith)

  rooms : SameRooms l left
  unfolding run_lent
  rooms = record { stack = h.stack_room; cells = h.cell_room; frames = length-set frames now.callers here ∙ h.frames_room }

  -- ended

  module _ (e : part_end ≡ ended (progress_in now cells) state) where
    machine_ended : machine_in (vm_ended m now) left ≡ machine_of state
    unfolding run_lent
    machine_ended = an_end_leaves_the_machine_as_it_stands m now left k current_put callers_stay

    machine_sane : SaneMachine world (machine_of state)
    unfolding part_of
    machine_sane = subst (SanePart world) (part_is _ e) (part_sane m s l (continues u) granted h.begins.bytes)

    leaves_ended : Leaves false (vm_ended m now) s left
    leaves_ended =
        leaves_idle s granted.order
        (unfold vm_ended in record { program = refl; strict = refl; stack = rooms.stack; cells = rooms.cells; frames = rooms.frames })
        (unfold vm_ended run_lent in record { cells = h.turns.fits.cells.exact; stack = exact_at_lem now.sp stack h.turns.fits.stack.exact; frames = omega arith })
        (unfold vm_ended in refl)
        (rw machine_ended machine_sane)

    run_ended : RunPost (continues u) m s l (Ok (ended_with m now)) left
    run_ended =
        posted m s l (continues u) granted (part_is _ e) (Ok (ended_with m now)) left
        (unfold run_lent in an_end_answers_by_the_rules m now left k current_put callers_stay world start given)
        (unfold run_lent in refl)
        (unfold part_of trace_of_part run_lent written in rw (no_trace (answer_in now) (tally_of now)))
        rooms
        (unfold ended_with in result_left s l left (answer_in now) (vm_ended m now) (tally_of now) leaves_ended)

  -- paused

  module _ (e : part_end ≡ paused (progress_in now cells) state) where
    under_way_lem : under_in (vm_paused m given now) left ≡ record { given = given; start = start; progress = progress_in now cells; state = state }
    under_way_lem = unfold run_lent in a_paused_run_is_under_way m now left k current_put callers_stay h.begins.fixed.given refl

    under_sane : SaneUnder world (under_in (vm_paused m given now) left)
    unfolding part_of
    under_sane = rw under_way_lem (subst (SanePart world) (part_is _ e) (part_sane m s l (continues u) granted h.begins.bytes))

    paused_exact : PausedExact (vm_paused m given now) left
    unfolding vm_paused run_lent
    paused_exact = record {
      spent = omega (arith, h.turns.fits.spent, h.begins.fixed.given);
      returns = h.turns.fits.returns;
      mark = h.turns.fits.mark;
      saved = saved.slots;
      cells = exact_cut now.used now.mark cells h.turns.fits.mark h.turns.fits.cells.exact;
      copy = saved.exact;
    }

    leaves_paused : Leaves true (vm_paused m given now) s left
    leaves_paused =
        leaves_under s granted.order
        (unfold vm_paused in record { program = refl; strict = refl; stack = rooms.stack; cells = rooms.cells; frames = rooms.frames })
        (unfold vm_paused run_lent in record { cells = h.turns.fits.cells.exact; stack = exact_at_lem now.sp stack h.turns.fits.stack.exact; frames = omega arith })
        (unfold vm_paused in refl) paused_exact under_sane

    run_paused : RunPost (continues u) m s l (Ok (paused_with m given now)) left
    run_paused =
        posted m s l (continues u) granted (part_is _ e) (Ok (paused_with m given now)) left
        (unfold run_lent in a_pause_answers_by_the_rules m now left k current_put callers_stay h.begins.fixed.given refl world)
        (unfold run_lent in refl)
        (unfold part_of trace_of_part entry_words run_lent written in refl)
        rooms
        (unfold paused_with in leaves_paused)

  settled_by : Ends world k part_end c stack cells frames → ((y : Fault) → c.turn ≡ t.Stopped y → ⊥) → RunPost (continues u) m s l (Ok (settled_with m given now (stands_paused c.turn))) left
  unfolding settled_with
  settled_by (over n e z) fine = rw n (run_ended e)
  settled_by (pause n e z o) fine = rw n (run_paused e)
  settled_by (stop x n e t) fine = absurd (fine x n)

  pub run_settled : ((y : Fault) → c.turn ≡ t.Stopped y → ⊥) → RunPost (continues u) m s l (Ok (settled_with m given now (stands_paused c.turn))) left
  run_settled fine = settled_by came fine

  -- ---- a fault has stopped it

  stopped_by : Ends world k part_end c stack cells frames → {y : Fault} → c.turn ≡ t.Stopped y → Stops (continues u) m s l now here (fault_number y) stack cells frames
  unfolding part_of world_of world_in
  stopped_by (over n e z) q = absurd (let z : ◌≡◌ {A = ℕ} 0 1 = cc in let y : ⊥ = omega arith in y)
  stopped_by (pause n e z o) q = absurd (let z : ◌≡◌ {A = ℕ} 0 1 = cc in let y : ⊥ = omega arith in y)
  stopped_by (stop x n e t) {y} q = let same : y ≡ x = cc in rw same (record {
    granted = granted;
    saved = saved;
    long = trace_long l granted.fits.1.0;
    copy_stays = refl;
    answer = part_is _ e;
    traced = t;
    sane = subst (SanePart world) (part_is _ e) (part_sane m s l (continues u) granted h.begins.bytes);
    exact_cells = exact_cut now.used now.mark cells h.turns.fits.mark h.turns.fits.cells.exact;
    few = few_callers;
    stack_room = h.stack_room;
    cell_room = h.cell_room;
    frames_room = h.frames_room;
  })

  pub stops : {y : Fault} → c.turn ≡ t.Stopped y → Stops (continues u) m s l now here (fault_number y) stack cells frames
  stops q = stopped_by came q
