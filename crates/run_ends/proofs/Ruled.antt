-- What a part of a run leaves and answers, in the words of the rules: `begin_of`, `part_of`, `abandon_of` and `recovered` say it, whatever the definitions in
-- between are called. l are the stores as the part left them.
-- Assumes nothing.
use mathlib.Core.Path.{◌≡◌, refl, ap, ◌∙◌}
use mathlib.Core.Bool.{Bool, true, false}
use mathlib.Core.List.{List, [], ◌∷◌}
use Prim.Native.Nat.{ℕ, suc}
use lib.Dec.{leb}
use lib.ListN.{length}
use Rattle.model.specs.declared.Vm.{Vm}
use Rattle.model.specs.declared.Value.{Value}
use Rattle.model.specs.declared.Frame.{Frame}
use Rattle.model.specs.declared.Tally.{Tally}
use Rattle.model.specs.Values.{vals}
use Rattle.model.specs.Programs.{function_at}
use Rattle.model.specs.Steps.{World, State, code_of}
use Rattle.model.specs.Runs.{standing, begin, Progress, at_start, machine_of, ended, paused, over, root, Entry, trace_of, recovered, fault, tally, answered, ends, part_of, begin_of, cut_at, abandon_of}
use Rattle.model.specs.Stores.{size, code_word}
use Rattle.model.specs.Machines.{Lent, innermost, callers_in, machine_in, under_in, ran, unchanged, entries_in, ended_as, answer_in}
use Rattle.model.specs.Machines as mc
use Rattle.laws_runs.proofs.Parts.{a_run_begun_at_its_end_is_over_at_once, a_run_begun_before_an_instruction_is_paused_there}
use Rattle.run_arms.specs.declared.Fixed.{Fixed}
use Rattle.run_arms.specs.declared.Going.{Going}
use Rattle.run_arms.specs.Links.{Around, frame_in, state_of}
use Rattle.run_steps.specs.Links.{progress_in}
use Rattle.run_steps.specs.Links as steps
use Rattle.run_ends.specs.Links.{Begun, cut_frame, vm_begun, begun_with, vm_ended, result_by, tally_of, ended_with, vm_paused, paused_with, vm_faulted, faulted_with}
use Rattle.std.specs.Prelude.{None, Option, Some, Ok}

-- the value of the last root Return, or "continue"
pub a_result_says_what_is_answered : (l : Lent) (a : Option Value) (m : Vm) (t : Tally) → answer_in l (Ok (result_by a m t)) ≡ ended_as m l (answered a t)
unfolding answer_in result_by answered
a_result_says_what_is_answered l None m t = refl
a_result_says_what_is_answered l (Some x) m t = refl

-- ---- a beginning: l' are the stores as it leaves them, the stack in the copy store too, and all frames unentered

module _ (m : Vm) (l l' : Lent) (w : World) (begun : standing (machine_in m l') 0 0 ≡ begin (machine_in m l) 0) where
  abbrev first : State
  first = begin (machine_in m l) 0

  pub a_begun_run_is_under_way : vals m.stack l'.copy ≡ vals m.stack l.stack
      → under_in (vm_begun m) l' ≡ record { given = 0; start = (machine_in m l).stack; progress = at_start first; state = first }
  unfolding under_in mc.progress_in machine_in vm_begun
  a_begun_run_is_under_way same = rw same (ap (λ (t : State). record { given = 0; start = vals m.stack l.stack; progress = at_start t; state = t }) begun)

  pub a_begun_machine_is_left : machine_in m l' ≡ machine_of first
  a_begun_machine_is_left = ap machine_of begun

  -- the frame f in which it begins, with its code's length by the functions' words
  module _ (words : List ℕ) (f : Frame) (here : f ≡ innermost m.frames l'.frames)
      (long : length (function_at w.functions f.function).code ≡ size (code_word words f.function)) where
    pub its_end_is_read_from_the_words : over w first ≡ leb (size (code_word words f.function)) f.position
    unfolding over code_of machine_in
    its_end_is_read_from_the_words = rw (← begun, ← here, long)

    module _ (same : vals m.stack l'.copy ≡ vals m.stack l.stack) where
      begins_by : (b : Bool) → over w first ≡ b → answer_in l' (Ok (begun_with m f words)) ≡ ran (unchanged m) (begin_of w (machine_in m l))
      unfolding answer_in begun_with
      begins_by true e = rw (a_run_begun_at_its_end_is_over_at_once w (machine_in m l) e, ← its_end_is_read_from_the_words, e, ← a_begun_machine_is_left)
          (unfold machine_in in refl)
      begins_by false e = rw (a_run_begun_before_an_instruction_is_paused_there w (machine_in m l) e, ← its_end_is_read_from_the_words, e) (unfold vm_begun in rw (a_begun_run_is_under_way same))

      pub a_beginning_answers_by_the_rules : answer_in l' (Ok (begun_with m f words)) ≡ ran (unchanged m) (begin_of w (machine_in m l))
      a_beginning_answers_by_the_rules = begins_by (over w first) refl

module _ (m : Vm) (g : Going) (l : Lent) where
  abbrev progress : Progress
  progress = progress_in g l.cells

  pub the_tally_counts_the_units_spent : tally_of g ≡ tally g.spent progress
  the_tally_counts_the_units_spent = refl

  -- ---- an end, or a pause: the current frame is put to its callers

  module _ (k : Fixed) {a : Around} (current : innermost (suc g.callers) l.frames ≡ frame_in g a.entered) (callers : callers_in (suc g.callers) l.frames ≡ a.callers) where
    abbrev here : State
    here = state_of k g l.stack l.cells a

    pub an_end_leaves_the_machine_as_it_stands : machine_in (vm_ended m g) l ≡ machine_of here
    unfolding machine_in vm_ended
    an_end_leaves_the_machine_as_it_stands = rw (current, callers)

    pub an_end_answers_by_the_rules : (w : World) (start : List Value) (u : ℕ) → answer_in l (Ok (ended_with m g)) ≡ ran (unchanged m) (part_of w start u (ended progress here))
    unfolding ended_with part_of
    an_end_answers_by_the_rules w start u =
        a_result_says_what_is_answered l (steps.answer_in g) (vm_ended m g) (tally_of g)
        ∙ unfold vm_ended in rw (an_end_leaves_the_machine_as_it_stands, the_tally_counts_the_units_spent)

    -- of u units given in all
    module _ {u : ℕ} (given : k.given ≡ u) {start : List Value} (copy : vals m.run.saved l.copy ≡ start) where
      pub a_paused_run_is_under_way : under_in (vm_paused m u g) l ≡ record { given = u; start = start; progress = progress; state = here }
      unfolding under_in mc.progress_in machine_in vm_paused steps.answer_in
      a_paused_run_is_under_way = rw (copy, current, callers, given)

      pub a_pause_answers_by_the_rules : (w : World) → answer_in l (Ok (paused_with m u g)) ≡ ran (unchanged m) (part_of w start u (paused progress here))
      unfolding answer_in paused_with part_of
      a_pause_answers_by_the_rules w = unfold vm_paused in rw a_paused_run_is_under_way

  -- ---- a fault: the stack of the start is put back, and one frame at the end of main

  module _ (w : World) {start : List Value} (stack : vals m.run.saved l.stack ≡ start)
      (main : innermost 1 l.frames ≡ root (length (function_at w.functions 0).code)) (alone : callers_in 1 l.frames ≡ []) where
    pub a_fault_leaves_the_recovered_machine : machine_in (vm_faulted m g) l ≡ recovered w start progress
    unfolding machine_in vm_faulted recovered
    a_fault_leaves_the_recovered_machine = rw (stack, main, alone)

    pub a_fault_answers_by_the_rules : (n : ℕ) {es : List Entry} → entries_in (suc g.callers) 0 l.backtrace ≡ es
        → answer_in l (Ok (faulted_with m g n)) ≡ ran (unchanged m) (ends (record { reply = fault n (tally g.spent progress) es; machine = recovered w start progress }))
    unfolding answer_in faulted_with
    a_fault_answers_by_the_rules n told = unfold vm_faulted in rw (a_fault_leaves_the_recovered_machine, the_tally_counts_the_units_spent, told)

-- ---- an abandoned run: l are the stores as they were

module _ (m : Vm) (l : Lent) where
  -- the innermost frame, where the run is cut
  abbrev pub cut : Frame
  cut = cut_frame m (innermost m.frames l.frames)

  pub an_abandoned_run_is_cut_by_the_rules : cut ≡ (cut_at (under_in m l).state).frame
  unfolding cut_frame cut_at under_in machine_in
  an_abandoned_run_is_cut_by_the_rules = refl

  module _ (g : Going) (at : Begun m cut m.run.given g) where
    pub an_abandoned_run_keeps_how_far_it_had_come : progress_in g l.cells ≡ (under_in m l).progress
    unfolding under_in mc.progress_in steps.answer_in
    an_abandoned_run_keeps_how_far_it_had_come = rw (at.returns, at.last, at.mark)

    pub an_abandoned_run_answers_by_the_rules : (w : World)
        → abandon_of w (under_in m l) ≡ record {
          reply = fault 13 (tally_of g) (trace_of w.functions (cut ∷ callers_in m.frames l.frames));
          machine = recovered w (vals m.run.saved l.copy) (progress_in g l.cells);
        }
    unfolding abandon_of
    an_abandoned_run_answers_by_the_rules w =
        rw (an_abandoned_run_keeps_how_far_it_had_come, an_abandoned_run_is_cut_by_the_rules, at.spent, at.returns) (unfold under_in cut_at machine_in mc.progress_in in refl)
