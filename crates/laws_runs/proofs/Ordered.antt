-- Good order as a run judges it, over counts and lent stores, and as the rules keep it, over worlds and machines: from each to the other.
use Rattle.std.specs.Prelude.{if◌then◌else◌, None, Option, Some}
use mathlib.Core.Path.{◌≡◌, refl}
use mathlib.Core.Bool.{Bool, true, false, not, ◌&&◌, ◌||◌}
use mathlib.Core.List.{List}
use Prim.Native.Nat.{ℕ, zero, suc, ◌-◌, ◌≤◌, ◌<◌}
use native.Mathlib.Omega.{arith}
use borrow.Author.Tests.{leb-true, le-leb, ltb-true, lt-ltb, lt-leb, eqb-true}
use lib.Dec.{leb, ltb, eqb}
use lib.ListN.{length}
use Rattle.model.specs.declared.Vm.{Vm}
use Rattle.model.specs.declared.Value.TheVariants as v
use Rattle.model.specs.declared.Value.{Value}
use Rattle.model.specs.Basics.{every_from}
use Rattle.model.specs.Values.{places, kind_at, payload_at, value_at, vals, exact_value}
use Rattle.model.specs.Heap.{Cell, cells_from, heap_of, blocks_from, heap_ok, exact_cells, placed_below}
use Rattle.model.specs.Programs.{function_at}
use Rattle.model.specs.Steps.{code_of}
use Rattle.model.specs.Runs.{standing, begin, over}
use Rattle.model.specs.Stores.{Stores, functions_from, world_in}
use Rattle.model.specs.Orders.{program_ok, cells_ok, stack_ok, last_ok, frame_store_ok}
use Rattle.model.specs.Machines.{Lent, frame_room, innermost, callers_in, machine_in, progress_in, under_in, world_of, machine_order, some_last, under_order, idle, part_order, run_order, no_run}
use Rattle.value.proofs.Coding.{and_left, and_right}
use Rattle.value.proofs.Stores.{length_vals, vals_slot}
use Rattle.cells.proofs.Order.{Placed, and_both}
use Rattle.cells.proofs.Stands.{length_heap, heap_split}
use Rattle.laws_runs.specs.Sane.{AllPlaced, LastPlaced, SaneWorld, CallersFit, Rooted, Rising, Sane}
use Rattle.laws_runs.specs.Parts.{SaneUnder, SaneMachine}
use Rattle.laws_runs.specs.Ordered.{CodeBytes, Ordered, UnderOrdered, Exact, Beside, Fresh}
use Rattle.laws_runs.proofs.Tests.{every_of, every_to}
use Rattle.laws_runs.proofs.Placed.{all_at}
use Rattle.laws_runs.proofs.Programs.{length_functions, parts_of_lem, has_main, length_text, program_world}
use Rattle.laws_runs.proofs.Runs.{begins_sane}
use Rattle.laws_runs.proofs.Frames.{some_frame, frames_counted, frames_in_lem, frames_back}

-- ---- the parts of good order

module _ (m : Vm) (s : Stores) (l : Lent) where
  pub order_of_lem : run_order m s l ≡ true → Ordered m s l
  unfolding run_order machine_order
  order_of_lem e =
      let program = program_ok m.program s in
      let cells = cells_ok m.program.text m.cells l.cells in
      let stack = stack_ok m.program.text (heap_of m.cells l.cells) m.stack l.stack in
      let last = last_ok m.program.text (heap_of m.cells l.cells) m.last in
      let frames = frame_store_ok (functions_from m.program.functions 0 s) (places 2 l.stack) m.frames l.frames in
      let e4 = and_left (program && cells && stack && last && frames) (part_order m s l) e in
      let e3 = and_left (program && cells && stack && last) frames e4 in
      let e2 = and_left (program && cells && stack) last e3 in
      let e1 = and_left (program && cells) stack e2 in
      record {
        program = and_left program cells e1;
        cells = and_right program cells e1;
        stack = and_right (program && cells) stack e2;
        last = and_right (program && cells && stack) last e3;
        frames = and_right (program && cells && stack && last) frames e4;
        part = and_right (program && cells && stack && last && frames) (part_order m s l) e;
      }

  pub order_to : Ordered m s l → run_order m s l ≡ true
  unfolding run_order machine_order
  order_to o =
      let program = program_ok m.program s in
      let cells = cells_ok m.program.text m.cells l.cells in
      let stack = stack_ok m.program.text (heap_of m.cells l.cells) m.stack l.stack in
      let last = last_ok m.program.text (heap_of m.cells l.cells) m.last in
      let frames = frame_store_ok (functions_from m.program.functions 0 s) (places 2 l.stack) m.frames l.frames in
      and_both (program && cells && stack && last && frames) (part_order m s l)
      (and_both (program && cells && stack && last) frames
      (and_both (program && cells && stack) last (and_both (program && cells) stack (and_both program cells o.program o.cells) o.stack) o.last)
      o.frames)
      o.part

  -- no run is under way, and the record says nothing else
  pub idle_of : run_order m s l ≡ true → m.run.on ≡ false → m.run ≡ no_run
  unfolding part_order idle
  idle_of e off =
      let r = m.run in
      let z : idle r ≡ true = rw off at (order_of_lem e).part in
      let given = eqb r.given 0 in
      let spent = eqb r.spent 0 in
      let returns = eqb r.returns 0 in
      let mark = eqb r.mark 0 in
      let z3 = and_left (given && spent && returns && mark) (eqb r.saved 0) z in
      let z2 = and_left (given && spent && returns) mark z3 in
      let z1 = and_left (given && spent) returns z2 in
      let a : r.given ≡ 0 = eqb-true _ _ (and_left given spent z1) in
      let b : r.spent ≡ 0 = eqb-true _ _ (and_right given spent z1) in
      let c : r.returns ≡ 0 = eqb-true _ _ (and_right (given && spent) returns z2) in
      let d : r.mark ≡ 0 = eqb-true _ _ (and_right (given && spent && returns) mark z3) in
      let f : r.saved ≡ 0 = eqb-true _ _ (and_right (given && spent && returns && mark) (eqb r.saved 0) z) in
      rw (off, a, b, c, d, f)

  pub idle_to : m.run ≡ no_run → part_order m s l ≡ true
  unfolding part_order idle
  idle_to e = rw e

  -- a run is under way
  abbrev bounds : Bool
  bounds =
      leb m.run.spent m.run.given && leb m.run.returns m.run.spent && (eqb m.run.returns 0 || some_last m.last) && leb m.run.mark m.cells
      && leb m.run.saved (places 2 l.stack)

  abbrev mark : Bool
  mark = cells_ok m.program.text m.run.mark l.cells

  abbrev copy : Bool
  copy = stack_ok m.program.text (heap_of m.run.mark l.cells) m.run.saved l.copy

  abbrev kept : Bool
  kept = last_ok m.program.text (heap_of m.run.mark l.cells) m.last

  abbrev entered : Bool
  entered = leb (innermost m.frames l.frames).entered m.run.spent

  abbrev here : Bool
  here = ltb (innermost m.frames l.frames).position
      (length (function_at (functions_from m.program.functions 0 s) (innermost m.frames l.frames).function).code)

  pub under_of_lem : run_order m s l ≡ true → m.run.on ≡ true → UnderOrdered m s l
  unfolding part_order under_order
  under_of_lem e on =
      let z : under_order m s l ≡ true = rw on at (order_of_lem e).part in
      let z4 = and_left (bounds && mark && copy && kept && entered) here z in
      let z3 = and_left (bounds && mark && copy && kept) entered z4 in
      let z2 = and_left (bounds && mark && copy) kept z3 in
      let z1 = and_left (bounds && mark) copy z2 in
      let b = and_left bounds mark z1 in
      let spent = leb m.run.spent m.run.given in
      let returns = leb m.run.returns m.run.spent in
      let answer = eqb m.run.returns 0 || some_last m.last in
      let marks = leb m.run.mark m.cells in
      let saved = leb m.run.saved (places 2 l.stack) in
      let b3 = and_left (spent && returns && answer && marks) saved b in
      let b2 = and_left (spent && returns && answer) marks b3 in
      let b1 = and_left (spent && returns) answer b2 in
      record {
        spent = leb-true _ _ (and_left spent returns b1);
        returns = leb-true _ _ (and_right spent returns b1);
        answer = and_right (spent && returns) answer b2;
        mark = leb-true _ _ (and_right (spent && returns && answer) marks b3);
        saved = leb-true _ _ (and_right (spent && returns && answer && marks) saved b);
        cells = and_right bounds mark z1;
        copy = and_right (bounds && mark) copy z2;
        last = and_right (bounds && mark && copy) kept z3;
        entered = leb-true _ _ (and_right (bounds && mark && copy && kept) entered z4);
        inside = ltb-true _ _ (and_right (bounds && mark && copy && kept && entered) here z);
      }

  pub under_to : m.run.on ≡ true → UnderOrdered m s l → part_order m s l ≡ true
  unfolding part_order under_order
  under_to on o = rw (on, le-leb _ _ o.spent, le-leb _ _ o.returns, o.answer, le-leb _ _ o.mark, le-leb _ _ o.saved, o.cells, o.copy, o.last, le-leb _ _ o.entered, lt-ltb _ _ o.inside)

-- ---- cells

module _ (t n : ℕ) (cells : List ℕ) where
  cells_of : cells_ok t n cells ≡ true → (n ≤ places 2 cells) × ((exact_cells n 0 cells ≡ true) × (heap_ok t (heap_of n cells) ≡ true))
  unfolding cells_ok
  cells_of e =
      let a = leb n (places 2 cells) in
      let b = exact_cells n 0 cells in
      let c = heap_ok t (heap_of n cells) in
      let d = and_left (a && b) c e in
      (leb-true _ _ (and_left a b d), (and_right a b d, and_right (a && b) c e))

  cells_to : n ≤ places 2 cells → exact_cells n 0 cells ≡ true → heap_ok t (heap_of n cells) ≡ true → cells_ok t n cells ≡ true
  unfolding cells_ok
  cells_to h e g = rw (le-leb n (places 2 cells) h, e) g

-- ---- a stack and a last result over a heap

module _ (t : ℕ) (H : List Cell) where
  all_vals : (n : ℕ) (stack : List ℕ) → ((i : ℕ) → i < n → Placed t H (length H) (value_at stack i)) → AllPlaced t H (vals n stack)
  unfolding vals AllPlaced
  all_vals zero stack f = tt
  all_vals (suc n) stack f = (f n (omega arith), all_vals n stack (λ i h. f i (omega arith)))

  vals_all : (n : ℕ) (stack : List ℕ) → AllPlaced t H (vals n stack) → (i : ℕ) → i < n → Placed t H (length H) (value_at stack i)
  vals_all n stack a i h = rw (vals_slot n stack i (v.Boolean false) h) at (all_at t H (vals n stack) a (n - suc i) (omega (arith, length_vals n stack)))

  module _ (n : ℕ) (stack : List ℕ) where
    slot_ok : ℕ → Bool
    slot_ok i = exact_value (kind_at stack i) (payload_at stack i) && placed_below t H (length H) (value_at stack i)

    pub slots_of : stack_ok t H n stack ≡ true → (i : ℕ) → i < n → (exact_value (kind_at stack i) (payload_at stack i) ≡ true) × Placed t H (length H) (value_at stack i)
    unfolding stack_ok slot_ok
    slots_of e i h =
        let x = exact_value (kind_at stack i) (payload_at stack i) in
        let y = placed_below t H (length H) (value_at stack i) in
        let z = every_of slot_ok n 0 (and_right (leb n (places 2 stack)) (every_from n 0 slot_ok) e) i (omega arith) (omega arith) in
        (and_left x y z, and_right x y z)

    pub stack_of : stack_ok t H n stack ≡ true → (n ≤ places 2 stack) × AllPlaced t H (vals n stack)
    unfolding stack_ok slot_ok
    stack_of e = (leb-true _ _ (and_left (leb n (places 2 stack)) (every_from n 0 slot_ok) e), all_vals n stack (λ i h. (slots_of e i h).1))

    stack_to : n ≤ places 2 stack → ((i : ℕ) → i < n → exact_value (kind_at stack i) (payload_at stack i) ≡ true) → AllPlaced t H (vals n stack) → stack_ok t H n stack ≡ true
    unfolding stack_ok slot_ok
    stack_to h f a =
        rw (le-leb n (places 2 stack) h)
        (every_to slot_ok n 0 (λ i l g. and_both (exact_value (kind_at stack i) (payload_at stack i)) (placed_below t H (length H) (value_at stack i))
        (f i (omega arith)) (vals_all n stack a i (omega arith))))

  last_of_lem : (x : Option Value) → last_ok t H x ≡ true → LastPlaced t H x
  unfolding last_ok LastPlaced
  last_of_lem None e = tt
  last_of_lem (Some y) e = e

  last_to : (x : Option Value) → LastPlaced t H x → last_ok t H x ≡ true
  unfolding last_ok LastPlaced
  last_to None p = refl
  last_to (Some y) p = p

-- ---- the last result of a run under way; none is whether it has completed no root Return

answer_of : (none : Bool) (x : Option Value) → (none || some_last x) ≡ true → some_last (if none then None else x) ≡ not none
unfolding some_last
answer_of true x e = refl
answer_of false x e = e

pub answer_to : (none : Bool) (x : Option Value) → some_last (if none then None else x) ≡ not none → (none || some_last x) ≡ true
answer_to true x e = refl
answer_to false x e = e

-- ---- from judged good order to the rules'

module _ (m : Vm) (s : Stores) (l : Lent) where
  -- the world's text is as long as the counts say
  pub text_length : program_ok m.program s ≡ true → length (world_of m s l).text ≡ m.program.text
  unfolding world_of world_in
  text_length e = length_text m.program s (parts_of_lem m.program s e)

  pub order_world : run_order m s l ≡ true → CodeBytes s → SaneWorld (world_of m s l)
  unfolding world_of
  order_world e b = program_world m.program s (places 2 l.stack) (frame_room l.frames) (places 2 l.cells) m.strict (order_of_lem m s l e).program b

  -- when e units are spent, at which no frame was entered later
  order_standing : run_order m s l ≡ true → (e u : ℕ) → (innermost m.frames l.frames).entered ≤ e → Sane (world_of m s l) (standing (machine_in m l) e u)
  unfolding world_of world_in machine_in Rising
  order_standing h e u most =
      let o = order_of_lem m s l h in
      let t = text_length o.program in
      let H = heap_of m.cells l.cells in
      let cells = cells_of m.program.text m.cells l.cells o.cells in
      let stack = stack_of m.program.text H m.stack l.stack o.stack in
      let frames = frames_in_lem (world_of m s l) m.frames l.frames o.frames in
      record {
        stack = rw (length_vals m.stack l.stack) stack.0;
        frames = frames_counted (world_of m s l) m.frames l.frames o.frames;
        cells = rw (length_heap m.cells l.cells) cells.0;
        heap = rw t cells.1.1;
        placed = rw t stack.1;
        last = rw t (last_of_lem m.program.text H m.last o.last);
        frame = frames.frame;
        callers = frames.callers;
        root = frames.root;
        rising = (most, frames.rising);
      }

  pub order_machine : run_order m s l ≡ true → SaneMachine (world_of m s l) (machine_in m l)
  unfolding machine_in
  order_machine h u = order_standing h _ u (omega arith)

  pub order_sane : run_order m s l ≡ true → (u : ℕ) → Sane (world_of m s l) (begin (machine_in m l) u)
  order_sane h u = begins_sane (world_of m s l) (machine_in m l) _ 0 u (order_machine h 0)

  -- the run under way
  pub order_under : run_order m s l ≡ true → m.run.on ≡ true → SaneUnder (world_of m s l) (under_in m l)
  unfolding under_in progress_in over code_of world_of world_in machine_in
  order_under e on =
      let o = under_of_lem m s l e on in
      let t = text_length (order_of_lem m s l e).program in
      let H = heap_of m.run.mark l.cells in
      let cells = cells_of m.program.text m.run.mark l.cells o.cells in
      let copy = stack_of m.program.text H m.run.saved l.copy o.copy in
      record {
        state = order_standing e _ _ o.entered;
        inside = lt-leb _ _ o.inside;
        units = omega arith;
        start = rw (length_vals m.run.saved l.copy) o.saved;
        placed = rw t copy.1;
        mark = record { cells = rw (length_heap m.run.mark l.cells) cells.0; heap = rw t cells.1.1; last = rw t (last_of_lem m.program.text H m.last o.last) };
        marked = record { last = refl; heap = record { more = _; is = heap_split m.cells m.run.mark l.cells o.mark } };
        answer = answer_of (eqb m.run.returns 0) m.last o.answer;
      }

  pub order_exact : run_order m s l ≡ true → Exact m l
  order_exact e =
      let o = order_of_lem m s l e in
      let H = heap_of m.cells l.cells in
      record {
        cells = (cells_of m.program.text m.cells l.cells o.cells).1.0;
        stack = (λ i h. (slots_of m.program.text H m.stack l.stack o.stack i h).0);
        frames = some_frame (functions_from m.program.functions 0 s) (places 2 l.stack) m.frames l.frames o.frames;
      }

  -- ---- and back

  pub sane_ordered : (d u : ℕ) → program_ok m.program s ≡ true → Exact m l → Sane (world_of m s l) (standing (machine_in m l) d u) → part_order m s l ≡ true → run_order m s l ≡ true
  unfolding world_of world_in machine_in Rising
  sane_ordered d u e x h part =
      let t = text_length e in
      let H = heap_of m.cells l.cells in
      order_to m s l (record {
        program = e;
        cells = cells_to m.program.text m.cells l.cells (rw (length_heap m.cells l.cells) at h.cells) x.cells (rw t at h.heap);
        stack = stack_to m.program.text H m.stack l.stack (rw (length_vals m.stack l.stack) at h.stack) x.stack (rw t at h.placed);
        last = last_to m.program.text H m.last (rw t at h.last);
        frames = frames_back (world_of m s l) m.frames l.frames x.frames h.frames (record { frame = h.frame; callers = h.callers; root = h.root; rising = h.rising.1 });
        part = part;
      })

-- ---- a machine beside one in good order

pub same_world : {m m' : Vm} {l l' : Lent} (s : Stores) → Beside m l m' l' → world_of m' s l' ≡ world_of m s l
unfolding world_of world_in places frame_room
same_world s b = rw (b.program, b.stack, b.cells, b.frames, b.strict)

-- what the rules leave in good order, in exact words, is in good order for the next call
pub sane_order : {m m' : Vm} {l l' : Lent} (s : Stores) (d u : ℕ) → run_order m s l ≡ true → Beside m l m' l' → Exact m' l' → Sane (world_of m s l) (standing (machine_in m' l') d u)
    → part_order m' s l' ≡ true → run_order m' s l' ≡ true
sane_order {m} {m'} {l} {l'} s d u e b x h part = sane_ordered m' s l' d u (rw b.program (order_of_lem m s l e).program) x (rw (same_world s b) h) part

-- ---- a machine that has not run

fresh_exact : {m : Vm} {l : Lent} → Fresh m l → Exact m l
unfolding exact_cells
fresh_exact f = record { cells = rw f.cells; stack = (λ i h. absurd (let z : ⊥ = omega (arith, f.stack) in z)); frames = omega (arith, f.frames) }

module _ (m : Vm) (s : Stores) (l : Lent) (p : program_ok m.program s ≡ true) (f : Fresh m l) where
  pub fresh_sane : SaneMachine (world_of m s l) (machine_in m l)
  unfolding world_of world_in machine_in innermost callers_in frame_room vals heap_of cells_from heap_ok blocks_from AllPlaced LastPlaced CallersFit Rooted Rising
  fresh_sane u = record {
    stack = rw f.stack (omega arith);
    frames = rw f.frames (omega (arith, f.room));
    cells = rw f.cells (omega arith);
    heap = rw f.cells refl;
    placed = rw f.stack tt;
    last = rw f.last tt;
    frame = rw (f.frames, f.frame) (record {
      known = omega (arith, length_functions s m.program.functions 0, has_main m.program s (parts_of_lem m.program s p));
      base = omega arith;
      position = omega arith;
    });
    callers = rw f.frames tt;
    root = rw (f.frames, f.frame) (refl, refl);
    rising = rw f.frames (omega arith, tt);
  }

  pub fresh_order : run_order m s l ≡ true
  fresh_order = sane_ordered m s l _ 0 p (fresh_exact f) (fresh_sane 0) (idle_to m s l f.run)
