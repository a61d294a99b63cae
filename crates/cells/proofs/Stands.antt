-- What stands in a store, and what in the heap that the store stands for.
use mathlib.Core.Path.{◌≡◌, refl, sym, ap, ◌∙◌}
use mathlib.Core.Bool.{Bool, true, false, ◌&&◌}
use mathlib.Core.List.{List, ◌∷◌, ◌++◌}
use Prim.Native.Nat.{ℕ, zero, suc, ◌+◌, ◌-◌, ◌*◌, ◌<◌, ◌≤◌}
use native.Mathlib.Omega.{arith}
use lib.Dec.{eqb}
use lib.ListN.{length, take}
use lib.Seq.{take_at}
use Rattle.model.specs.Values.{kind_at, payload_at, value_at}
use Rattle.model.specs.Heap.{Cell, header_of, cell_at, cells_from, heap_of, is_head, item_of, head_of, cell_in, item_in, head_in, exact_cell, exact_cells}
use Rattle.value.proofs.Coding.{and_left, and_right}
use Rattle.value.proofs.Stores.{length_cells, get_d_cells, cell_header, cell_item}
use Rattle.cells.proofs.Order.{and_both, Whole}

pub length_heap : (n : ℕ) (w : List ℕ) → length (heap_of n w) ≡ n
unfolding heap_of
length_heap n w = length_cells n 0 w

module _ (w : List ℕ) (used i : ℕ) (l : i < used) where
  cell_is : cell_in (heap_of used w) i ≡ cell_at w i
  unfolding cell_in heap_of
  cell_is = get_d_cells used 0 w i _ l ∙ (let z : 0 + i ≡ i = omega arith in rw z)

  pub kind_is : eqb (kind_at w i) 6 ≡ is_head (cell_in (heap_of used w) i)
  kind_is = on (eqb (kind_at w i) 6) refl
    where
      on : (z : Bool) → eqb (kind_at w i) 6 ≡ z → z ≡ is_head (cell_in (heap_of used w) i)
      on true e = sym (ap is_head (cell_is ∙ cell_header w i e))
      on false e = sym (ap is_head (cell_is ∙ cell_item w i e))

  pub item_is : is_head (cell_in (heap_of used w) i) ≡ false → item_in (heap_of used w) i ≡ value_at w i
  unfolding item_in
  item_is e = ap item_of (cell_is ∙ cell_item w i (kind_is ∙ e))

  pub head_is : is_head (cell_in (heap_of used w) i) ≡ true → head_in (heap_of used w) i ≡ header_of (payload_at w i)
  unfolding head_in
  head_is e = ap head_of (cell_is ∙ cell_header w i (kind_is ∙ e))

-- a block that is whole in the store
module _ (w : List ℕ) (used p : ℕ) (k : Whole (heap_of used w) p used) where
  pub header_is : head_in (heap_of used w) p ≡ header_of (payload_at w p)
  header_is = head_is w used p (let z = k.ends in omega arith) k.headed

  pub header_room : 2 * used ≤ length w → 2 * p + 2 ≤ length w
  header_room h = let z = k.ends in omega arith

-- the heap of the first cells is a prefix
cells_split : (n m i : ℕ) (w : List ℕ) → cells_from (n + m) i w ≡ cells_from n i w ++ cells_from m (i + n) w
unfolding cells_from
cells_split zero m i w = let z : 0 + m ≡ m = omega arith in let y : i + 0 ≡ i = omega arith in rw (z, y)
cells_split (suc n) m i w =
    let z : suc n + m ≡ suc (n + m) = omega arith in
    let y : i + suc n ≡ suc i + n = omega arith in
    rw (z, y) (ap (λ (l : List Cell). cell_at w i ∷ l) (cells_split n m (suc i) w))

pub heap_split : (used p : ℕ) (w : List ℕ) → p ≤ used → heap_of used w ≡ heap_of p w ++ cells_from (used - p) p w
unfolding heap_of
heap_split used p w h =
    let z : p + (used - p) ≡ used = omega arith in
    let y : 0 + p ≡ p = omega arith in
    rw (z, y) at (cells_split p (used - p) 0 w)

-- cells that were taken are given back
pub heap_cut : (used p : ℕ) (w : List ℕ) → p ≤ used → heap_of p w ≡ take p (heap_of used w)
heap_cut used p w h = sym (ap (take p) (heap_split used p w h) ∙ take_at (heap_of p w) _ p (length_heap p w))

exact_first : (n m i : ℕ) (w : List ℕ) → exact_cells (n + m) i w ≡ true → exact_cells n i w ≡ true
unfolding exact_cells
exact_first zero m i w e = refl
exact_first (suc n) m i w e =
    let z : suc n + m ≡ suc (n + m) = omega arith in
    let x = exact_cell (kind_at w i) (payload_at w i) in
    let f : x && exact_cells (n + m) (suc i) w ≡ true = rw z at e in
    and_both x (exact_cells n (suc i) w) (and_left x (exact_cells (n + m) (suc i) w) f) (exact_first n m (suc i) w (and_right x (exact_cells (n + m) (suc i) w) f))

pub exact_cut : (used p : ℕ) (w : List ℕ) → p ≤ used → exact_cells used 0 w ≡ true → exact_cells p 0 w ≡ true
exact_cut used p w h e = let z : p + (used - p) ≡ used = omega arith in exact_first p (used - p) 0 w (rw z e)

exact_from : (n i : ℕ) (w : List ℕ) → exact_cells n i w ≡ true → (j : ℕ) → j < n → exact_cell (kind_at w (i + j)) (payload_at w (i + j)) ≡ true
unfolding exact_cells
exact_from zero i w e j h = absurd (let z : ⊥ = omega arith in z)
exact_from (suc n) i w e zero h = let z : i + 0 ≡ i = omega arith in rw z (and_left (exact_cell (kind_at w i) (payload_at w i)) (exact_cells n (suc i) w) e)
exact_from (suc n) i w e (suc j) h = let z : i + suc j ≡ suc i + j = omega arith in rw z
    (exact_from n (suc i) w (and_right (exact_cell (kind_at w i) (payload_at w i)) (exact_cells n (suc i) w) e) j (omega arith))

-- each cell of an exact store is exact
pub exact_at_lem : (used : ℕ) (w : List ℕ) → exact_cells used 0 w ≡ true → (i : ℕ) → i < used → exact_cell (kind_at w i) (payload_at w i) ≡ true
exact_at_lem used w e i h = let z : 0 + i ≡ i = omega arith in rw z at (exact_from used 0 w e i h)
