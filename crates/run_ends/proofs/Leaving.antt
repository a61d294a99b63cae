-- What a paused run leaves is in good order.
--     PausedExact                      its counts are within bounds, and the words below them exact
--     a-paused-run-is-in-order         it is then in the order that the next call judges
-- Assumes nothing.
use mathlib.Core.Path.{◌≡◌, refl}
use mathlib.Core.Bool.{true}
use mathlib.Core.List.{[], ◌∷◌}
use Prim.Native.Nat.{ℕ, ◌≤◌, ◌<◌}
use native.Mathlib.Omega.{arith}
use borrow.Author.Tests.{leb-false}
use lib.Dec.{eqb}
use Rattle.model.specs.declared.Vm.{Vm}
use Rattle.model.specs.Values.{places, kind_at, payload_at, exact_value}
use Rattle.model.specs.Heap.{exact_cells}
use Rattle.model.specs.Steps.{code_of}
use Rattle.model.specs.Runs.{standing, over, root}
use Rattle.model.specs.Stores.{Stores, world_in}
use Rattle.model.specs.Orders.{program_ok}
use Rattle.model.specs.Machines.{Lent, frame_room, innermost, callers_in, machine_in, progress_in, under_in, world_of, part_order, no_run}
use Rattle.value.proofs.Stores.{length_vals}
use Rattle.laws_runs.specs.Sane.{CallersFit, Rooted, Rising, Sane}
use Rattle.laws_runs.specs.Parts.{SaneUnder}
use Rattle.laws_runs.specs.Ordered.{Ordered}
use Rattle.laws_runs.proofs.Programs.{length_functions, parts_of_lem, has_main}
use Rattle.laws_runs.proofs.Ordered.{order_of_lem, sane_ordered, idle_to, under_to, answer_to}

pub record PausedExact (m : Vm) (l : Lent) : Type 0 where
  pub spent : m.run.spent ≤ m.run.given
  pub returns : m.run.returns ≤ m.run.spent
  pub mark : m.run.mark ≤ m.cells
  pub saved : m.run.saved ≤ places 2 l.copy
  pub cells : exact_cells m.run.mark 0 l.cells ≡ true
  pub copy : (i : ℕ) → i < m.run.saved → exact_value (kind_at l.copy i) (payload_at l.copy i) ≡ true

module _ (m : Vm) (s : Stores) (l : Lent) (program : program_ok m.program s ≡ true) (exact : PausedExact m l) (sane : SaneUnder (world_of m s l) (under_in m l)) where
  -- what abandoning would leave: the copy as a stack, the mark's cells, the last result
  abbrev kept : Vm
  kept = record { program = m.program; stack = m.run.saved; frames = 1; cells = m.run.mark; last = m.last; run = no_run; strict = m.strict }

  abbrev copied : Lent
  copied = record { stack = l.copy; cells = l.cells; frames = root 0 ∷ []; copy = []; backtrace = [] }

  kept_sane : Sane (world_of kept s copied) (standing (machine_in kept copied) 0 0)
  unfolding world_of world_in machine_in innermost callers_in frame_room under_in progress_in CallersFit Rooted Rising
  kept_sane = record {
    stack = rw (length_vals m.run.saved l.copy) exact.saved;
    frames = omega arith;
    cells = sane.mark.cells;
    heap = sane.mark.heap;
    placed = sane.placed;
    last = sane.mark.last;
    frame = record {
      known = omega (arith, length_functions s m.program.functions 0, has_main m.program s (parts_of_lem m.program s program));
      base = omega arith;
      position = omega arith;
    };
    callers = tt;
    root = (refl, refl);
    rising = (omega arith, tt);
  }

  kept_ordered : Ordered kept s copied
  kept_ordered =
      order_of_lem kept s copied
      (sane_ordered kept s copied 0 0 program (record { cells = exact.cells; stack = exact.copy; frames = omega arith }) kept_sane (idle_to kept s copied refl))

  pub a_paused_run_is_in_order : m.run.on ≡ true → part_order m s l ≡ true
  unfolding under_in progress_in over code_of world_of world_in machine_in Rising
  a_paused_run_is_in_order on = under_to m s l on (record {
    spent = exact.spent;
    returns = exact.returns;
    answer = answer_to (eqb m.run.returns 0) m.last sane.answer;
    mark = exact.mark;
    saved = rw (length_vals m.run.saved l.copy) at sane.start;
    cells = kept_ordered.cells;
    copy = kept_ordered.stack;
    last = kept_ordered.last;
    entered = sane.state.rising.0;
    inside = leb-false _ _ sane.inside;
  })
