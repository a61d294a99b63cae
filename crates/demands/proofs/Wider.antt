-- A machine in good order stays so where its program grows.
use Rattle.std.specs.Prelude.{if◌then◌else◌, None, Option, Some}
use mathlib.Core.Path.{◌≡◌, refl}
use mathlib.Core.Bool.{Bool, true, false, ◌&&◌}
use mathlib.Core.List.{List, [], ◌∷◌}
use Prim.Native.Nat.{ℕ, zero, suc, ◌+◌, ◌≤◌, ◌<◌}
use native.Mathlib.Omega.{arith}
use borrow.Author.Tests.{leb-true, le-leb}
use lib.Dec.{leb, eqb}
use lib.ListN.{length}
use Rattle.model.specs.declared.Counts.{Counts}
use Rattle.model.specs.declared.Vm.{Vm}
use Rattle.model.specs.declared.Value.{Value}
use Rattle.model.specs.declared.Value.TheVariants as v
use Rattle.model.specs.declared.Frame.{Frame}
use Rattle.model.specs.Heap.{Cell, item, head, cell_in, head_in, elements_in, deepest, whole_below, placed_below, element_below, elements_below, block_ok, blocks_from, heap_ok}
use Rattle.model.specs.Steps.{World, State}
use Rattle.model.specs.Stores.{Stores, world_in}
use Rattle.model.specs.Orders.{program_ok}
use Rattle.model.specs.Machines.{Lent, machine_in, world_of, run_order}
use Rattle.value.proofs.Coding.{and_left, and_right}
use Rattle.cells.proofs.Order.{and_both}
use Rattle.laws_runs.specs.Sane.{AllPlaced, LastPlaced, FrameFits, CallersFit, Sane}
use Rattle.laws_runs.proofs.Ordered.{order_of_lem, order_machine, order_exact, idle_of, idle_to, sane_ordered, text_length}
use Rattle.laws_runs.proofs.Programs.{length_functions, parts_of_lem, code_size}
use Rattle.demands.specs.Kept.{Grew, WorldGrew}

-- ---- more text

module _ (t u : ℕ) (h : t ≤ u) (H : List Cell) where
  placed_text : (b : ℕ) (x : Value) → placed_below t H b x ≡ true → placed_below u H b x ≡ true
  unfolding placed_below
  placed_text b (v.Scalar x) e = refl
  placed_text b (v.Boolean x) e = refl
  placed_text b (v.String o n) e = let z : o + n ≤ t = leb-true _ _ e in le-leb (o + n) u (omega arith)
  placed_text b (v.FunctionReference o n) e = let z : o + n ≤ t = leb-true _ _ e in le-leb (o + n) u (omega arith)
  placed_text b (v.List p) e = e
  placed_text b (v.StructInstance p) e = e

  element_text : (b : ℕ) (x : Cell) → element_below t H b x ≡ true → element_below u H b x ≡ true
  unfolding element_below
  element_text b (item x) e = placed_text b x e
  element_text b (head x) e = e

  elements_text : (b n i : ℕ) → elements_below t H b n i ≡ true → elements_below u H b n i ≡ true
  unfolding elements_below
  elements_text b zero i e = refl
  elements_text b (suc n) i e =
      let x = element_below t H b (cell_in H i) in
      let y = elements_below t H b n (suc i) in
      and_both (element_below u H b (cell_in H i)) (elements_below u H b n (suc i)) (element_text b (cell_in H i) (and_left x y e)) (elements_text b n (suc i) (and_right x y e))

  block_text : (p : ℕ) → block_ok t H p ≡ true → block_ok u H p ≡ true
  unfolding block_ok
  block_text p e =
      let a = whole_below H p (length H) in
      let x = elements_below t H p (head_in H p).count (suc p) in
      let c = eqb (head_in H p).depth (suc (deepest H (elements_in H p))) in
      let d = leb (head_in H p).depth 64 in
      let e2 = and_left (a && x && c) d e in
      let e1 = and_left (a && x) c e2 in
      rw (and_left a x e1, elements_text p (head_in H p).count (suc p) (and_right a x e1), and_right (a && x) c e2) (and_right (a && x && c) d e)

  blocks_by : (b : Bool) (p : ℕ) (x y : Bool) → (x ≡ true → y ≡ true) → (if b then true else block_ok t H p && x) ≡ true → (if b then true else block_ok u H p && y) ≡ true
  blocks_by true p x y f e = refl
  blocks_by false p x y f e = and_both (block_ok u H p) y (block_text p (and_left (block_ok t H p) x e)) (f (and_right (block_ok t H p) x e))

  blocks_text : (n p : ℕ) → blocks_from n t H p ≡ true → blocks_from n u H p ≡ true
  unfolding blocks_from
  blocks_text zero p e = e
  blocks_text (suc n) p e = blocks_by (eqb p (length H)) p _ _ (blocks_text n (suc p + (head_in H p).count)) e

  heap_text : heap_ok t H ≡ true → heap_ok u H ≡ true
  unfolding heap_ok
  heap_text e = blocks_text (length H) 0 e

  all_text : (vs : List Value) → AllPlaced t H vs → AllPlaced u H vs
  unfolding AllPlaced
  all_text [] a = tt
  all_text (x ∷ vs) a = (placed_text (length H) x a.0, all_text vs a.1)

  last_text : (x : Option Value) → LastPlaced t H x → LastPlaced u H x
  unfolding LastPlaced
  last_text None p = tt
  last_text (Some x) p = placed_text (length H) x p

-- ---- a wider world

module _ {w w' : World} (g : WorldGrew w w') where
  frame_wider : {f : Frame} → FrameFits w f → FrameFits w' f
  frame_wider k = record { known = omega (arith, k.known, g.functions); base = omega (arith, k.base, g.stack); position = k.position }

  callers_wider : (fs : List Frame) → CallersFit w fs → CallersFit w' fs
  unfolding CallersFit
  callers_wider [] k = tt
  callers_wider (f ∷ fs) k =
      let c = k.0 in
      (record { frame = frame_wider c.frame; from = c.from; to = omega (arith, c.to, g.codes f.function c.frame.known) }, callers_wider fs k.1)

  pub sane_wider : {s : State} → Sane w s → Sane w' s
  sane_wider {s} h = record {
    stack = omega (arith, h.stack, g.stack);
    frames = omega (arith, h.frames, g.frames);
    cells = omega (arith, h.cells, g.cells);
    heap = heap_text _ _ g.text s.heap h.heap;
    placed = all_text _ _ g.text s.heap s.stack h.placed;
    last = last_text _ _ g.text s.heap s.last h.last;
    frame = frame_wider h.frame;
    callers = callers_wider s.callers h.callers;
    root = h.root;
    rising = h.rising;
  }

-- ---- a machine whose program grew

abbrev pub with_program : Counts → Vm → Vm
with_program c m = record { program = c; stack = m.stack; frames = m.frames; cells = m.cells; last = m.last; run = m.run; strict = m.strict }

-- it grows only where no run is under way
module _ (m : Vm) (s : Stores) (l : Lent) (c : Counts) (s' : Stores) (e : run_order m s l ≡ true) (off : m.run.on ≡ false) (e' : program_ok c s' ≡ true) (g : Grew m.program s c s') where
  world_grew : WorldGrew (world_of m s l) (world_of (with_program c m) s' l)
  unfolding world_of world_in
  world_grew =
      let p = (order_of_lem m s l e).program in
      let n = length_functions s m.program.functions 0 in
      record {
        text = omega (arith, text_length m s l p, text_length (with_program c m) s' l e', g.text);
        stack = omega arith;
        frames = omega arith;
        cells = omega arith;
        functions = omega (arith, n, length_functions s' c.functions 0, g.functions);
        codes = λ i h.
            let k : i < m.program.functions = omega arith in
            omega (arith, code_size m.program s (parts_of_lem m.program s p) i k, code_size c s' (parts_of_lem c s' e') i (omega (arith, g.functions)), g.codes i k);
      }

  pub order_wider : run_order (with_program c m) s' l ≡ true
  unfolding machine_in
  order_wider =
      let x = order_exact m s l e in
      sane_ordered (with_program c m) s' l _ 0 e' (record { cells = x.cells; stack = x.stack; frames = x.frames }) (sane_wider world_grew (order_machine m s l e 0))
      (idle_to (with_program c m) s' l (idle_of m s l e off))
