-- A call of a run judges and answers the same of lent stores that are the same below the counts.
use Rattle.std.specs.Prelude.{if◌then◌else◌}
use mathlib.Core.Path.{◌≡◌, refl}
use mathlib.Core.Bool.{Bool, true, false}
use Prim.Native.Nat.{ℕ, ◌+◌, ◌*◌, ◌≤◌}
use native.Mathlib.Omega.{arith}
use lib.Dec.{ltb}
use Rattle.model.specs.declared.Vm.{Vm}
use Rattle.model.specs.Values.{places}
use Rattle.model.specs.Heap.{heap_of}
use Rattle.model.specs.Runs.{ends, begin_of, continue_of, abandon_of}
use Rattle.model.specs.Stores.{Stores, functions_from}
use Rattle.model.specs.Machines.{Lent, innermost, machine_in, progress_in, under_in, world_of, run_order, part_order, copy_short, trace_short, unchanged, ran, refused, RunCall, begins, continues, abandons, begin_answer, continue_answer, abandon_answer, run_answer}
use Rattle.layout.proofs.Bools.{either_way}
use Rattle.laws_runs.specs.Ordered.{UnderOrdered}
use Rattle.laws_runs.proofs.Ordered.{order_of_lem, order_to, order_exact, idle_of, idle_to, under_of_lem, under_to}
use Rattle.demands.specs.Agree.{LentAlike}
use Rattle.demands.proofs.Fronts.{front_of, alike_less, alike_back, places_alike, vals_alike, heap_to, heap_alike, cells_alike, stack_alike, room_alike, frames_alike, innermost_alike, callers_alike}

pub turned : {m : Vm} {l l' : Lent} → LentAlike m l l' → LentAlike m l' l
turned {m} {l} {l'} k = record {
  stack = alike_back k.stack;
  cells = alike_back k.cells;
  frames = alike_back k.frames;
  copy = alike_back k.copy;
  backtrace = let e = k.backtrace in rw e;
}

-- the cells that a run under way goes back to are among the machine's; without one there are none
pub mark_below : (m : Vm) (s : Stores) (l : Lent) → run_order m s l ≡ true → m.run.mark ≤ m.cells
mark_below m s l e = either_way m.run.on (λ on. (under_of_lem m s l e on).mark) (λ off. rw (idle_of m s l e off) (omega arith))

module _ (m : Vm) (s : Stores) {l l' : Lent} (k : LentAlike m l l') where
  pub world_alike : world_of m s l ≡ world_of m s l'
  unfolding world_of
  world_alike = rw (places_alike l.stack l'.stack k.stack.room 2, room_alike k.frames, places_alike l.cells l'.cells k.cells.room 2)

  -- ---- good order

  module _ (e : run_order m s l ≡ true) where
    same_frame : innermost m.frames l.frames ≡ innermost m.frames l'.frames
    same_frame = innermost_alike (front_of k.frames) (order_exact m s l e).frames

    same_mark : heap_of m.run.mark l.cells ≡ heap_of m.run.mark l'.cells
    same_mark = heap_to m.cells (front_of k.cells) m.run.mark (mark_below m s l e)

    under_on : m.run.on ≡ true → UnderOrdered m s l'
    under_on on =
        let o = under_of_lem m s l e on in
        let t = m.program.text in
        let H = heap_of m.run.mark l'.cells in
        let marked = alike_less {n = 2 * m.run.mark} (let z = o.mark in omega arith) k.cells in
        record {
          spent = o.spent;
          returns = o.returns;
          answer = o.answer;
          mark = o.mark;
          saved = rw (places_alike l.stack l'.stack k.stack.room 2) at o.saved;
          cells = rw (cells_alike m.run.mark marked t) at o.cells;
          copy = rw (same_mark, stack_alike m.run.saved k.copy t H) at o.copy;
          last = rw same_mark at o.last;
          entered = rw same_frame at o.entered;
          inside = rw same_frame at o.inside;
        }

    part_on : part_order m s l' ≡ true
    part_on = either_way m.run.on (λ on. under_to m s l' on (under_on on)) (λ off. idle_to m s l' (idle_of m s l e off))

    order_on : run_order m s l' ≡ true
    order_on =
        let o = order_of_lem m s l e in
        let t = m.program.text in
        let H = heap_of m.cells l'.cells in
        let same_heap = heap_alike m.cells (front_of k.cells) in
        order_to m s l' (record {
          program = o.program;
          cells = rw (cells_alike m.cells k.cells t) at o.cells;
          stack = rw (same_heap, stack_alike m.stack k.stack t H) at o.stack;
          last = rw same_heap at o.last;
          frames = rw (places_alike l.stack l'.stack k.stack.room 2, frames_alike k.frames (functions_from m.program.functions 0 s) (places 2 l'.stack)) at o.frames;
          part = part_on;
        })

-- one holds where the other does
same_bool : (a b : Bool) → (a ≡ true → b ≡ true) → (b ≡ true → a ≡ true) → a ≡ b
same_bool true true f g = refl
same_bool true false f g = let e = f refl in rw e
same_bool false true f g = let e = g refl in rw e
same_bool false false f g = refl

module _ (m : Vm) (s : Stores) {l l' : Lent} (k : LentAlike m l l') where
  pub order_alike : run_order m s l ≡ run_order m s l'
  order_alike = same_bool (run_order m s l) (run_order m s l') (order_on m s k) (order_on m s (turned k))

  -- ---- what they stand for

  pub copy_short_alike : copy_short l ≡ copy_short l'
  unfolding copy_short
  copy_short_alike = rw (places_alike l.copy l'.copy k.copy.room 2, places_alike l.stack l'.stack k.stack.room 2)

  pub trace_short_alike : trace_short l ≡ trace_short l'
  unfolding trace_short
  trace_short_alike = rw (places_alike l.backtrace l'.backtrace k.backtrace 3, room_alike k.frames)

  pub machine_alike : 1 ≤ m.frames → machine_in m l ≡ machine_in m l'
  unfolding machine_in
  machine_alike h = rw (vals_alike m.stack (front_of k.stack), innermost_alike (front_of k.frames) h, callers_alike (front_of k.frames), heap_alike m.cells (front_of k.cells))

  pub under_alike : run_order m s l ≡ true → under_in m l ≡ under_in m l'
  unfolding under_in progress_in
  under_alike e = rw (vals_alike m.run.saved (front_of k.copy), same_mark m s k e, machine_alike (order_exact m s l e).frames)

  -- ---- the three calls

  begin_by : (b : Bool) → run_order m s l ≡ b
      → (if b then (if m.run.on then refused 25 else (if copy_short l then refused 17 else ran (unchanged m) (begin_of (world_of m s l) (machine_in m l)))) else refused 19)
      ≡ (if b then (if m.run.on then refused 25 else (if copy_short l' then refused 17 else ran (unchanged m) (begin_of (world_of m s l') (machine_in m l')))) else refused 19)
  begin_by true e = rw (copy_short_alike, world_alike m s k, machine_alike (order_exact m s l e).frames)
  begin_by false e = refl

  continue_by : (u : ℕ) (b : Bool) → run_order m s l ≡ b
      → (if b then (if m.run.on then (if trace_short l then refused 17 else (if ltb 0xFFFF_FFFF_FFFF_FFFF (m.run.given + u) then refused 22 else
      ran (unchanged m) (continue_of (world_of m s l) (under_in m l) u))) else refused 18) else refused 19)
      ≡ (if b then (if m.run.on then (if trace_short l' then refused 17 else (if ltb 0xFFFF_FFFF_FFFF_FFFF (m.run.given + u) then refused 22 else
      ran (unchanged m) (continue_of (world_of m s l') (under_in m l') u))) else refused 18) else refused 19)
  continue_by u true e = rw (trace_short_alike, world_alike m s k, under_alike e)
  continue_by u false e = refl

  abandon_by : (b : Bool) → run_order m s l ≡ b
      → (if b then (if m.run.on then (if trace_short l then refused 17 else ran (unchanged m) (ends (abandon_of (world_of m s l) (under_in m l)))) else refused 18) else refused 19)
      ≡ (if b then (if m.run.on then (if trace_short l' then refused 17 else ran (unchanged m) (ends (abandon_of (world_of m s l') (under_in m l')))) else refused 18) else refused 19)
  abandon_by true e = rw (trace_short_alike, world_alike m s k, under_alike e)
  abandon_by false e = refl

  pub answer_alike : (c : RunCall) → run_answer c m s l ≡ run_answer c m s l'
  unfolding run_answer begin_answer continue_answer abandon_answer
  answer_alike begins = rw (← order_alike) (begin_by (run_order m s l) refl)
  answer_alike (continues u) = rw (← order_alike) (continue_by u (run_order m s l) refl)
  answer_alike abandons = rw (← order_alike) (abandon_by (run_order m s l) refl)
