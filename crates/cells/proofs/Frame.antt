-- Cells added above a heap change nothing below; and what a build adds keeps good order.
use Rattle.std.specs.Prelude.{if◌then◌else◌}
use mathlib.Core.Path.{◌≡◌, refl, sym, ap, ◌∙◌}
use mathlib.Core.Bool.{Bool, true, false, ◌&&◌}
use mathlib.Core.List.{List, [], ◌∷◌, ◌++◌}
use Prim.Native.Nat.{ℕ, zero, suc, ◌+◌, ◌<◌, ◌≤◌}
use native.Mathlib.Omega.{arith}
use borrow.Author.Tests.{ltb-false, eqb-true, eq-eqb, ne_eqb}
use lib.Dec.{eqb, ltb}
use lib.ListN.{length, get_or, take, length-append, length-map, get_or-append, get_or-map}
use lib.Seq.{get_or-append-add, get_or-append_seam, take-append_seam}
use Rattle.model.specs.declared.Value.{Value}
use Rattle.model.specs.declared.Value.TheVariants as v
use Rattle.model.specs.declared.Header.{Header}
use Rattle.model.specs.declared.Fault.TheVariants as f
use Rattle.model.specs.Heap.{Cell, item, head, is_head, item_of, head_of, cell_in, item_in, head_in, items, elements_in, depth_in, deepest, block_of, built, unbuilt, build_of, placed_below, block_ok, blocks_from, heap_ok}
use Rattle.value.proofs.Coding.{and_left, and_right}
use Rattle.cells.proofs.Order.{Every, nil, cons, every_map, every_at, Whole, Placed, list_of, list_number, list_to, struct_of, struct_to, placed_more, Block, block_of_lem, block_to, inner}

-- ---- cells added above

module _ (H X : List Cell) where
  pub cell_frame : (i : ℕ) → i < length H → cell_in (H ++ X) i ≡ cell_in H i
  unfolding cell_in
  cell_frame i h = get_or-append H X (item (v.Boolean false)) i h

  pub head_frame : (i : ℕ) → i < length H → head_in (H ++ X) i ≡ head_in H i
  unfolding head_in
  head_frame i h = ap head_of (cell_frame i h)

  pub item_frame : (i : ℕ) → i < length H → item_in (H ++ X) i ≡ item_in H i
  unfolding item_in
  item_frame i h = ap item_of (cell_frame i h)

  items_frame : (n i : ℕ) → i + n ≤ length H → items n i (H ++ X) ≡ items n i H
  unfolding items
  items_frame zero i h = refl
  items_frame (suc n) i h = rw (item_frame i (omega arith), items_frame n (suc i) (omega arith))

  module _ (b : ℕ) (l : b ≤ length H) where
    pub head_of_lem : (p : ℕ) → Whole H p b → head_in (H ++ X) p ≡ head_in H p
    head_of_lem p w = let z = w.ends in head_frame p (omega arith)

    pub elements_frame : (p : ℕ) → Whole H p b → elements_in (H ++ X) p ≡ elements_in H p
    unfolding elements_in
    elements_frame p w = let z = w.ends in rw (head_of_lem p w) (items_frame (head_in H p).count (suc p) (omega arith))

    whole_frame : (p : ℕ) → Whole H p b → Whole (H ++ X) p b
    whole_frame p w = record {
      headed = let z = w.ends in ap is_head (cell_frame p (omega arith)) ∙ w.headed;
      ends = rw (head_of_lem p w) w.ends;
    }

    pub placed_frame : (t : ℕ) (u : Value) → Placed t H b u → Placed t (H ++ X) b u
    unfolding placed_below
    placed_frame t (v.Scalar x) f = refl
    placed_frame t (v.Boolean x) f = refl
    placed_frame t (v.String o n) f = f
    placed_frame t (v.FunctionReference o n) f = f
    placed_frame t (v.List p) f =
        let w = list_of t H b p f in
        list_to t (H ++ X) b p (whole_frame p w) (ap (λ (h : Header). h.number) (head_of_lem p w) ∙ list_number t H b p f)
    placed_frame t (v.StructInstance p) f = struct_to t (H ++ X) b p (whole_frame p (struct_of t H b p f))

    pub depth_frame : (t : ℕ) (u : Value) → Placed t H b u → depth_in (H ++ X) u ≡ depth_in H u
    unfolding depth_in
    depth_frame t (v.Scalar x) f = refl
    depth_frame t (v.Boolean x) f = refl
    depth_frame t (v.String o n) f = refl
    depth_frame t (v.FunctionReference o n) f = refl
    depth_frame t (v.List p) f = ap (λ (h : Header). h.depth) (head_of_lem p (list_of t H b p f))
    depth_frame t (v.StructInstance p) f = ap (λ (h : Header). h.depth) (head_of_lem p (struct_of t H b p f))

    pub deepest_frame : (t : ℕ) {us : List Value} → Every (Placed t H b) us → deepest (H ++ X) us ≡ deepest H us
    unfolding deepest
    deepest_frame t nil = refl
    deepest_frame t (cons {u} f fs) = rw (depth_frame t u f, deepest_frame t fs)

  length_more : length H ≤ length (H ++ X)
  length_more = let z = length-append H X in omega arith

  -- a block stays a block
  pub block_frame : (t p : ℕ) → Block t H p → Block t (H ++ X) p
  block_frame t p b =
      let w = b.whole in
      let l : p ≤ length H = (let z = w.ends in omega arith) in
      let hp = head_of_lem (length H) (omega arith) p w in
      record {
        whole = record { headed = (whole_frame (length H) (omega arith) p w).headed; ends = let z = w.ends in let y = length_more in rw hp (omega arith) };
        element = λ k h.
            let h' : k < (head_in H p).count = rw hp at h in
            let e = b.element k h' in
            let s : suc p + k < length H = (let z = w.ends in omega arith) in
            record {
              plain = ap is_head (cell_frame (suc p + k) s) ∙ e.plain;
              placed = rw (item_frame (suc p + k) s) (placed_frame p l t (item_in H (suc p + k)) e.placed);
            };
        deep =
            let e = elements_frame (length H) (omega arith) p w in
            rw (hp, e) (b.deep ∙ ap suc (sym (deepest_frame p l t (every_map (λ u i. i.placed) (inner t H p b)))));
        shallow = rw hp b.shallow;
      }

-- ---- the new block

items_are : (H : List Cell) (i : ℕ) (us : List Value) → ((k : ℕ) → item_in H (i + k) ≡ get_or us k (v.Boolean false)) → items (length us) i H ≡ us
unfolding items
items_are H i [] e = refl
items_are H i (u ∷ us) e =
    let z : i + 0 ≡ i = omega arith in
    let y : item_in H i ≡ u = rw z at (e 0) in
    rw (y, items_are H (suc i) us (λ k. let x : i + suc k ≡ suc i + k = omega arith in rw x at (e (suc k))))

module _ (H : List Cell) (k : ℕ) (us : List Value) where
  pub length_new : length (H ++ block_of H k us) ≡ suc (length H) + length us
  unfolding block_of
  length_new = let y = length-append H (block_of H k us) in let z = length-map us item in omega arith

  cell_head : cell_in (H ++ block_of H k us) (length H) ≡ head (record { count = length us; number = k; depth = suc (deepest H us) })
  unfolding cell_in block_of
  cell_head = get_or-append_seam H _ _ _

  pub head_new : head_in (H ++ block_of H k us) (length H) ≡ record { count = length us; number = k; depth = suc (deepest H us) }
  unfolding head_in
  head_new = ap head_of cell_head

  cell_new : (j : ℕ) → cell_in (H ++ block_of H k us) (suc (length H) + j) ≡ item (get_or us j (v.Boolean false))
  unfolding cell_in block_of
  cell_new j = let z : suc (length H) + j ≡ length H + suc j = omega arith in rw z (get_or-append-add H _ (suc j) _ ∙ get_or-map item us j (v.Boolean false))

  item_new : (j : ℕ) → item_in (H ++ block_of H k us) (suc (length H) + j) ≡ get_or us j (v.Boolean false)
  unfolding item_in
  item_new j = ap item_of (cell_new j)

  pub elements_new : elements_in (H ++ block_of H k us) (length H) ≡ us
  unfolding elements_in
  elements_new = rw head_new (items_are (H ++ block_of H k us) (suc (length H)) us item_new)

  pub whole_new : Whole (H ++ block_of H k us) (length H) (length (H ++ block_of H k us))
  whole_new = record { headed = ap is_head cell_head; ends = let z = length_new in rw head_new (omega arith) }

  pub block_new : (t : ℕ) → Every (Placed t H (length H)) us → suc (deepest H us) ≤ 64 → Block t (H ++ block_of H k us) (length H)
  block_new t f small = record {
    whole = whole_new;
    element = λ j h.
        let h' : j < length us = rw head_new at h in
        record {
          plain = ap is_head (cell_new j);
          placed = rw (item_new j) (placed_frame H (block_of H k us) (length H) (omega arith) t _ (every_at f j h'));
        };
    deep = rw (head_new, elements_new) (ap suc (sym (deepest_frame H (block_of H k us) (length H) (omega arith) t f)));
    shallow = rw head_new small;
  }

-- a build that was not refused
pub record Grown (room : ℕ) (H : List Cell) (k : ℕ) (us : List Value) (H' : List Cell) : Type 0 where
  pub shallow : suc (deepest H us) ≤ 64
  pub fits : length H + suc (length us) ≤ room
  pub is : H' ≡ H ++ block_of H k us

grown_at : (room : ℕ) (H : List Cell) (k : ℕ) (us : List Value) (H' : List Cell) (x y : Bool) → ltb 64 (suc (deepest H us)) ≡ x → ltb room (length H + suc (length us)) ≡ y
    → (if x then unbuilt f.TooDeep else (if y then unbuilt f.CellsFull else built (H ++ block_of H k us))) ≡ built H' → Grown room H k us H'
grown_at room H k us H' true y ex ey e = absurd (let z : ◌≡◌ {A = ℕ} 0 1 = cc in omega arith)
grown_at room H k us H' false true ex ey e = absurd (let z : ◌≡◌ {A = ℕ} 0 1 = cc in omega arith)
grown_at room H k us H' false false ex ey e = record { shallow = ltb-false _ _ ex; fits = ltb-false _ _ ey; is = cc }

pub grown_of : (room : ℕ) (H : List Cell) (k : ℕ) (us : List Value) (H' : List Cell) → build_of room H k us ≡ built H' → Grown room H k us H'
unfolding build_of
grown_of room H k us H' e = grown_at room H k us H' (ltb 64 (suc (deepest H us))) (ltb room (length H + suc (length us))) refl refl e

-- ---- the test passes again

pub at_end_lem : (f t : ℕ) (H : List Cell) (i : ℕ) → i ≡ length H → blocks_from f t H i ≡ true
unfolding blocks_from
at_end_lem zero t H i e = eq-eqb _ _ e
at_end_lem (suc f) t H i e = rw (eq-eqb _ _ e)

stepped : (f t : ℕ) (H : List Cell) (i : ℕ) → Block t H i → blocks_from f t H (suc i + (head_in H i).count) ≡ true → blocks_from (suc f) t H i ≡ true
unfolding blocks_from
stepped f t H i b e = rw (ne_eqb i (length H) (λ q. let z = b.whole.ends in omega arith), block_to t H i b, e)

module _ (t : ℕ) (H X : List Cell) (after : (f : ℕ) → blocks_from (suc f) t (H ++ X) (length H) ≡ true) where
  on_one : (f i : ℕ) (y : Bool) (z : Bool) → eqb i (length H) ≡ z → (if z then true else block_ok t H i && y) ≡ true
      → (y ≡ true → blocks_from (suc f) t (H ++ X) (suc i + (head_in H i).count) ≡ true) → blocks_from (suc (suc f)) t (H ++ X) i ≡ true
  on_one f i y true q e on = let z : i ≡ length H = eqb-true _ _ q in rw z (after (suc f))
  on_one f i y false q e on =
      let b = block_of_lem t H i (and_left (block_ok t H i) y e) in
      stepped (suc f) t (H ++ X) i (block_frame H X t i b) (rw (head_of_lem H X (length H) (omega arith) i b.whole) (on (and_right (block_ok t H i) y e)))

  on_from : (f i : ℕ) → blocks_from f t H i ≡ true → blocks_from (suc f) t (H ++ X) i ≡ true
  unfolding blocks_from
  on_from zero i e = let z : i ≡ length H = eqb-true _ _ e in rw z (after 0)
  on_from (suc f) i e = on_one f i (blocks_from f t H (suc i + (head_in H i).count)) (eqb i (length H)) refl e (λ r. on_from f (suc i + (head_in H i).count) r)

-- more blocks than needed may be allowed
module _ (t : ℕ) (H : List Cell) where
  fuel_one : (f i : ℕ) (y : Bool) (z : Bool) → eqb i (length H) ≡ z → (if z then true else block_ok t H i && y) ≡ true
      → (y ≡ true → blocks_from (suc f) t H (suc i + (head_in H i).count) ≡ true) → blocks_from (suc (suc f)) t H i ≡ true
  fuel_one f i y true q e on = at_end_lem (suc (suc f)) t H i (eqb-true _ _ q)
  fuel_one f i y false q e on = stepped (suc f) t H i (block_of_lem t H i (and_left (block_ok t H i) y e)) (on (and_right (block_ok t H i) y e))

  fuel_suc : (f i : ℕ) → blocks_from f t H i ≡ true → blocks_from (suc f) t H i ≡ true
  unfolding blocks_from
  fuel_suc zero i e = at_end_lem 1 t H i (eqb-true _ _ e)
  fuel_suc (suc f) i e = fuel_one f i (blocks_from f t H (suc i + (head_in H i).count)) (eqb i (length H)) refl e (λ r. fuel_suc f (suc i + (head_in H i).count) r)

  fuel_more : (n f i : ℕ) → blocks_from f t H i ≡ true → blocks_from (f + n) t H i ≡ true
  fuel_more zero f i e = let z : f + 0 ≡ f = omega arith in rw z e
  fuel_more (suc n) f i e = let z : f + suc n ≡ suc (f + n) = omega arith in rw z (fuel_suc (f + n) i (fuel_more n f i e))

ok_of : (t : ℕ) (H : List Cell) → heap_ok t H ≡ true → blocks_from (length H) t H 0 ≡ true
unfolding heap_ok
ok_of t H e = e

ok_to : (t : ℕ) (H : List Cell) → blocks_from (length H) t H 0 ≡ true → heap_ok t H ≡ true
unfolding heap_ok
ok_to t H e = e

new_good : (t : ℕ) (H : List Cell) (k : ℕ) (us : List Value) → heap_ok t H ≡ true → Every (Placed t H (length H)) us → suc (deepest H us) ≤ 64 → heap_ok t (H ++ block_of H k us) ≡ true
new_good t H k us e f small =
    let B = block_of H k us in
    let n = length_new H k us in
    let past : suc (length H) + (head_in (H ++ B) (length H)).count ≡ length (H ++ B) = rw (head_new H k us) (sym n) in
    let after : (m : ℕ) → blocks_from (suc m) t (H ++ B) (length H) ≡ true = (λ m. stepped m t (H ++ B) (length H) (block_new H k us t f small) (at_end_lem m t (H ++ B) _ past)) in
    let s = fuel_more t (H ++ B) (length us) (suc (length H)) 0 (on_from t H B after (length H) 0 (ok_of t H e)) in
    ok_to t (H ++ B) (rw (sym n) at s)

-- ---- a build that was not refused

-- what it keeps: good order, the places of old values, and the old heap as a prefix; and its value is placed
pub record Keeps (t : ℕ) (H : List Cell) (k : ℕ) (H' : List Cell) : Type 0 where
  pub good : heap_ok t H' ≡ true
  pub old : (u : Value) → Placed t H (length H) u → Placed t H' (length H') u
  pub list : k ≡ 0 → Placed t H' (length H') (v.List (length H))
  pub struct : Placed t H' (length H') (v.StructInstance (length H))
  pub before : take (length H) H' ≡ H

keeps : (t : ℕ) (H : List Cell) (k : ℕ) (us : List Value) → heap_ok t H ≡ true → Every (Placed t H (length H)) us → suc (deepest H us) ≤ 64 → Keeps t H k (H ++ block_of H k us)
keeps t H k us e f small =
    let B = block_of H k us in
    record {
      good = new_good t H k us e f small;
      old = λ u p. placed_more t (H ++ B) (length H) (length (H ++ B)) (length_more H B) u (placed_frame H B (length H) (omega arith) t u p);
      list = λ q. list_to t (H ++ B) (length (H ++ B)) (length H) (whole_new H k us) (ap (λ (h : Header). h.number) (head_new H k us) ∙ q);
      struct = struct_to t (H ++ B) (length (H ++ B)) (length H) (whole_new H k us);
      before = take-append_seam H B;
    }

pub build_good : (t room : ℕ) (H : List Cell) (k : ℕ) (us : List Value) (H' : List Cell)
    → heap_ok t H ≡ true → Every (Placed t H (length H)) us → build_of room H k us ≡ built H' → Keeps t H k H'
build_good t room H k us H' e f q = let g = grown_of room H k us H' q in rw g.is (keeps t H k us e f g.shallow)
