-- A run that is abandoned: what is at hand where it is stopped.
--     position-small, current-ready     the current frame can be read, and its position counted on
--     abandons                          the run is stopped there
-- Assumes nothing.
use mathlib.Core.Path.{◌≡◌, refl, sym, ap, subst}
use Prim.Native.Nat.{◌-◌, ◌≤◌, ◌<◌}
use native.Mathlib.Omega.{arith}
use lib.ListN.{length, get_or}
use Rattle.model.specs.declared.Vm.{Vm}
use Rattle.model.specs.declared.Frame.{Frame}
use Rattle.model.specs.Runs.{cut_at, ends, abandon_of}
use Rattle.model.specs.Stores.{Stores, world_in}
use Rattle.model.specs.Machines.{Lent, innermost, callers_in, machine_in, under_in, world_of, abandons as abandonsCall}
use Rattle.cells.proofs.Stands.{exact_cut}
use Rattle.laws_runs.specs.Ordered.{CodeBytes}
use Rattle.laws_runs.proofs.Keeps.{cut_faults}
use Rattle.laws_runs.proofs.Ordered.{under_of_lem, order_exact, order_sane, order_under}
use Rattle.frames.specs.Links.{no_frame, callers_of}
use Rattle.frames.proofs.Callers.{innermost_is, callers_are}
use Rattle.run_arms.specs.declared.Going.{Going}
use Rattle.run_ends.specs.Links.{Begun, cut_frame}
use Rattle.run_ends.proofs.Ruled.{cut, an_abandoned_run_keeps_how_far_it_had_come, an_abandoned_run_is_cut_by_the_rules, an_abandoned_run_answers_by_the_rules}
use Rattle.machine.specs.Links.{Granted}
use Rattle.machine.proofs.Granted.{lengths_of, saved_of, trace_long}
use Rattle.machine.proofs.Leaves.{part_sane}
use Rattle.machine.proofs.Stops.{Stops}

module _ (m : Vm) (s : Stores) (l : Lent) (can : Granted abandonsCall m s l) where
  abbrev here : Frame
  here = get_or l.frames (m.frames - 1) no_frame

  pub current_ready : m.frames - 1 < length l.frames
  current_ready = (lengths_of m s l can.order).current

  pub position_small : here.position ≤ 131070
  position_small =
      let small : (innermost m.frames l.frames).position ≤ 131070 = unfold machine_in in (order_sane m s l can.order 0).frame.position in
      rw (innermost_is m.frames l.frames refl) at small

  -- the frame in which the run is cut
  abbrev cut_here : Frame
  cut_here = cut_frame m here

  cut_is : cut m l ≡ cut_here
  cut_is = ap (cut_frame m) (innermost_is m.frames l.frames refl)

  module _ (bytes : CodeBytes s) (g : Going) (begun : Begun m cut_here m.run.given g) where
    at : Begun m (cut m l) m.run.given g
    at = subst (λ (f : Frame). Begun m f m.run.given g) (sym cut_is) begun

    callers_are_here : callers_of g.callers l.frames ≡ callers_in m.frames l.frames
    callers_are_here = sym (callers_are m.frames l.frames (sym begun.callers) (let z = current_ready in omega (arith, begun.callers)))

    pub abandons : Stops abandonsCall m s l g cut_here 13 l.stack l.cells l.frames
    unfolding world_of world_in
    abandons =
        let o = can.order in
        let on = can.fits.0 in
        let n = lengths_of m s l o in
        let r = under_of_lem m s l o on in
        record {
          granted = can;
          saved = saved_of m s l o on;
          long = trace_long l can.fits.1;
          copy_stays = refl;
          answer = rw (callers_are_here, ← cut_is) (ap ends (an_abandoned_run_answers_by_the_rules m l g at (world_of m s l)));
          traced = rw (callers_are_here, ← cut_is, an_abandoned_run_is_cut_by_the_rules m l)
              (unfold cut_at under_in machine_in in (cut_faults (world_of m s l) (under_in m l).state (order_under m s l o on).state (order_under m s l o on).inside).traced);
          sane = rw (an_abandoned_run_keeps_how_far_it_had_come m l g at) (unfold abandon_of under_in in part_sane m s l abandonsCall can bytes);
          exact_cells = rw begun.mark (exact_cut m.cells m.run.mark l.cells r.mark (order_exact m s l o).cells);
          few = omega (arith, begun.callers, n.some, n.frames);
          stack_room = refl;
          cell_room = refl;
          frames_room = refl;
        }
