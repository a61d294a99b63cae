-- A run that goes on: what the loop leans on, and that its end is the part's.
--     Begins        what is at hand when the loop begins
--     begins-end    the end from there is the end of the part
--     run-under     the loop may begin
-- Assumes nothing.
use mathlib.Core.Path.{◌≡◌, refl}
use Prim.Native.Nat.{ℕ, ◌+◌, ◌-◌}
use native.Mathlib.Omega.{arith}
use lib.ListN.{get_or}
use Rattle.model.specs.declared.Vm.{Vm}
use Rattle.model.specs.Values.{places}
use Rattle.model.specs.Steps.{State, with_units}
use Rattle.model.specs.Runs.{end_from}
use Rattle.model.specs.Stores.{Stores}
use Rattle.model.specs.Machines.{Lent, frame_room, machine_in, under_in, world_of, continues}
use Rattle.model.specs.Machines as mc
use Rattle.laws_runs.specs.Sane.{Sane}
use Rattle.laws_runs.specs.Ordered.{CodeBytes}
use Rattle.laws_runs.proofs.Programs.{parts_of_lem}
use Rattle.laws_runs.proofs.Runs.{any_units}
use Rattle.laws_runs.proofs.Ordered.{order_of_lem, under_of_lem, order_exact, order_under}
use Rattle.frames.specs.Links.{no_frame}
use Rattle.run_arms.specs.declared.Fixed.{Fixed}
use Rattle.run_arms.specs.declared.Going.{Going}
use Rattle.run_arms.proofs.Keeping.{exact_all}
use Rattle.run_steps.specs.Links.{answer_in, progress_in}
use Rattle.run_loop.specs.Links.{state_in, Under}
use Rattle.run_ends.specs.Links.{Begun}
use Rattle.machine.specs.Links.{Granted}
use Rattle.frames.proofs.Callers.{innermost_is, callers_are}
use Rattle.machine.proofs.Granted.{lengths_of}
use Rattle.machine.proofs.Lends.{FixedIn, text_taken, lent_is, coded_is}

pub record Begins (m : Vm) (s : Stores) (l : Lent) (u : ℕ) (k : Fixed) (g : Going) : Type 0 where
  pub granted : Granted (continues u) m s l
  pub bytes : CodeBytes s
  pub fixed : FixedIn m l (m.run.given + u) k
  pub begun : Begun m (get_or l.frames (m.frames - 1) no_frame) m.run.spent g

module _ (m : Vm) (s : Stores) (l : Lent) (u : ℕ) (k : Fixed) (g : Going) (h : Begins m s l u k g) where
  -- when the current frame was entered
  abbrev entered : ℕ
  entered = (get_or l.frames (m.frames - 1) no_frame).entered

  abbrev start : State
  start = state_in k g entered l.stack l.cells l.frames

  -- the running machine stands for the run that is under way, with the units that are left and those that come to them
  start_is : with_units ((under_in m l).state.units + u) (under_in m l).state ≡ start
  unfolding under_in machine_in
  start_is =
      let b = h.begun in
      let n = lengths_of m s l h.granted.order in
      let r = under_of_lem m s l h.granted.order h.granted.fits.0 in
      let units : m.run.given - m.run.spent + u ≡ m.run.given + u - m.run.spent = omega (arith, r.spent) in
      rw (
        units,
        h.fixed.given,
        callers_are m.frames l.frames refl (let z = n.current in omega arith),
        innermost_is m.frames l.frames refl,
        b.sp,
        b.function,
        b.position,
        b.base,
        b.callers,
        b.used,
        b.spent,
        b.last,
      )

  same_progress : (under_in m l).progress ≡ progress_in g l.cells
  unfolding under_in mc.progress_in answer_in
  same_progress = rw (h.begun.returns, h.begun.mark, h.begun.last)

  pub begins_end : end_from (world_of m s l) (under_in m l).progress (with_units ((under_in m l).state.units + u) (under_in m l).state)
      ≡ end_from (world_of m s l) (progress_in g l.cells) start
  begins_end = rw (start_is, same_progress)

  pub run_under : Under (world_of m s l) k g entered m.program.text s.constants s.functions s.text s.main s.other l.stack l.cells l.frames
  unfolding frame_room places
  run_under =
      let o = h.granted.order in
      let b = h.begun in
      let x = h.fixed in
      let exact = order_exact m s l o in
      let n = lengths_of m s l o in
      let r = under_of_lem m s l o h.granted.fits.0 in
      let under = order_under m s l o h.granted.fits.0 in
      let sane : Sane (world_of m s l) (with_units ((under_in m l).state.units + u) (under_in m l).state) = any_units (under_in m l).state under.state in
      record {
        taken = text_taken m.program s (parts_of_lem m.program s (order_of_lem m s l o).program);
        lent = lent_is m s l k x o h.bytes;
        coded = coded_is m s l k x;
        room = omega arith;
        fits = record {
          stack = record { count = omega arith; room = omega arith; exact = rw b.sp (exact_all m.stack l.stack exact.stack); callers = omega arith };
          cells = record { count = rw b.used n.cells; exact = rw b.used exact.cells };
          mark = omega (arith, b.mark, b.used, r.mark);
          spent = omega (arith, b.spent, x.given, r.spent);
          returns = omega (arith, b.returns, b.spent, r.returns);
        };
        sane = rw start_is at sane;
      }
