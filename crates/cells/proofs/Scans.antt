-- The test of good order: the laws of its code.
use mathlib.Core.Path.{◌≡◌, refl, sym, ap, ◌∙◌}
use mathlib.Core.Bool.{Bool, true, false, not, ◌&&◌, true≢false, and-false}
use mathlib.Core.Logic.{⊎_elim}
use mathlib.Core.List.{List, [], ◌∷◌, ◌++◌}
use Prim.Native.Nat.{ℕ, zero, suc, ◌+◌, ◌-◌, ◌*◌, ◌<◌, ◌≤◌, max}
use native.Mathlib.Omega.{arith}
use borrow.Author.Tests.{not-true, not-false, eq-eqb, ne_eqb, le-leb, lt-leb, ltb-true, ltb-false, eqb-true, eqb-false}
use lib.Dec.{eqb, leb, ltb}
use lib.ListN.{length}
use Rattle.std.specs.Bool.{MatchBool}
use Rattle.std.specs.List.{AllWithin, HoldsAt, range_with_len}
use Rattle.std.proofs.lemmas.List.FromFn.{length-range_with_len, get_or-range_with_len}
use denote.Enum.Declared.{tag_of}
use types.Run.{OneOf, miss}
use Rattle.model.specs.contracts.Value.{the_type}
use Rattle.model.specs.declared.Value.{Value}
use Rattle.model.specs.declared.Value.TheVariants as v
use Rattle.model.specs.declared.Header.{Header}
use Rattle.model.specs.Values.{kind_at, payload_at, value_at}
use Rattle.model.specs.Heap.{Cell, item, head, header_of, cells_from, heap_of, is_head, item_of, cell_in, item_in, head_in, items, elements_in, depth_in, deepest, whole_below, placed_below, element_below, elements_below, block_ok, blocks_from, heap_ok, exact_cell, exact_cells}
use Rattle.cells.specs.Links.{Held}
use Rattle.cells.proofs.Order.{same_test, by_less, Whole, whole_of, Placed, Block, block_of_lem}
use Rattle.cells.proofs.Frame.{cell_frame, head_frame, depth_frame, at_end_lem}
use Rattle.cells.proofs.Stands.{length_heap, kind_is, item_is, head_is, header_is, header_room, heap_split}

-- ---- a whole block

far : (H : List Cell) (p b : ℕ) → b ≤ p → whole_below H p b ≡ false
unfolding whole_below
far H p b l = rw (lt-leb (suc p + (head_in H p).count) b (omega arith)) (and-false (is_head (cell_in H p)))

module _ (w : List ℕ) (used p : ℕ) where
  pub whole_far : used ≤ p → false ≡ whole_below (heap_of used w) p used
  whole_far l = sym (far (heap_of used w) p used l)

  module _ (l : p < used) (z : Bool) (e : z ≡ eqb (kind_at w p) 6) where
    pub whole_none : not z ≡ true → false ≡ whole_below (heap_of used w) p used
    unfolding whole_below
    whole_none n =
        let y : is_head (cell_in (heap_of used w) p) ≡ false = sym (kind_is w used p l) ∙ sym e ∙ not-true _ n in
        rw y

    pub whole_here : not z ≡ false → (h : Header) → h ≡ header_of (payload_at w p) → ltb h.count (used - p) ≡ whole_below (heap_of used w) p used
    unfolding whole_below
    whole_here n h q =
        let y : is_head (cell_in (heap_of used w) p) ≡ true = sym (kind_is w used p l) ∙ sym e ∙ not-false _ n in
        let x : head_in (heap_of used w) p ≡ h = head_is w used p l y ∙ sym q in
        let c = h.count in
        rw (y, x) (same_test (ltb c (used - p)) (leb (suc p + c) used)
        (λ t. let s = ltb-true c (used - p) t in le-leb (suc p + c) used (omega arith)) (λ t. let s = ltb-false c (used - p) t in lt-leb (suc p + c) used (omega arith)))

-- ---- a placed value

module _ (t : ℕ) (H : List Cell) (b : ℕ) (u : Value) where
  pub placed_string : (o n : ℕ) → u ≡ v.String o n → leb (o + n) t ≡ placed_below t H b u
  unfolding placed_below
  placed_string o n e = rw e

  pub placed_reference : (o n : ℕ) → u ≡ v.FunctionReference o n → leb (o + n) t ≡ placed_below t H b u
  unfolding placed_below
  placed_reference o n e = rw e

  module _ (p : ℕ) (z : Bool) (g : z ≡ whole_below H p b) where
    pub placed_struct : u ≡ v.StructInstance p → z ≡ placed_below t H b u
    unfolding placed_below
    placed_struct e = rw e g

    pub placed_no : u ≡ v.List p → not z ≡ true → false ≡ placed_below t H b u
    unfolding placed_below
    placed_no e n = let y : whole_below H p b ≡ false = sym g ∙ not-true _ n in rw (e, y)

  pub placed_plain : OneOf (0 ∷ 1 ∷ []) (tag_of the_type u) → true ≡ placed_below t H b u
  unfolding placed_below
  placed_plain = on u
    where
      on : (x : Value) → OneOf (0 ∷ 1 ∷ []) (tag_of the_type x) → true ≡ placed_below t H b x
      on (v.Scalar x) h = refl
      on (v.Boolean x) h = refl
      on (v.String o n) h = absurd (miss (0 ∷ 1 ∷ []) 2 tt h)
      on (v.FunctionReference o n) h = absurd (miss (0 ∷ 1 ∷ []) 3 tt h)
      on (v.List p) h = absurd (miss (0 ∷ 1 ∷ []) 4 tt h)
      on (v.StructInstance p) h = absurd (miss (0 ∷ 1 ∷ []) 5 tt h)

-- a block that is whole in the store
module _ (w : List ℕ) (used p : ℕ) (z : Bool) (g : z ≡ whole_below (heap_of used w) p used) (n : not z ≡ false) where
  is_whole : whole_below (heap_of used w) p used ≡ true
  is_whole = sym g ∙ not-false _ n

  stands : Whole (heap_of used w) p used
  stands = whole_of (heap_of used w) p used is_whole

  pub whole_room : 2 * used ≤ length w → 2 * p + 2 ≤ length w
  whole_room = header_room w used p stands

  module _ (h : Header) (he : h ≡ header_of (payload_at w p)) where
    pub placed_list : (t : ℕ) (u : Value) → u ≡ v.List p → eqb h.number 0 ≡ placed_below t (heap_of used w) used u
    unfolding placed_below
    placed_list t u e = let y : head_in (heap_of used w) p ≡ h = header_is w used p stands ∙ sym he in rw (e, is_whole, y)

    head_p : head_in (heap_of used w) p ≡ h
    head_p = header_is w used p stands ∙ sym he

    ends : suc p + h.count ≤ used
    ends = rw head_p at stands.ends

-- ---- what is placed below p, judged in the cells below p alone

near : (H X : List Cell) (q : ℕ) → q < length H → whole_below H q (length H) ≡ whole_below (H ++ X) q (length H)
unfolding whole_below
near H X q l = rw (cell_frame H X q l, head_frame H X q l)

whole_cut : (H X : List Cell) (q : ℕ) → whole_below H q (length H) ≡ whole_below (H ++ X) q (length H)
whole_cut H X q = ⊎_elim (near H X q) (λ l. far H q (length H) l ∙ sym (far (H ++ X) q (length H) l)) (by_less q (length H))

list_cut : (H X : List Cell) (q : ℕ) → whole_below H q (length H) && eqb (head_in H q).number 0 ≡ whole_below (H ++ X) q (length H) && eqb (head_in (H ++ X) q).number 0
list_cut H X q =
    rw (← whole_cut H X q)
    (⊎_elim (λ l. rw (head_frame H X q l)) (λ l. rw (far H q (length H) l)) (by_less q (length H)))

placed_at_lem : (t : ℕ) (H X : List Cell) (u : Value) → placed_below t H (length H) u ≡ placed_below t (H ++ X) (length H) u
unfolding placed_below
placed_at_lem t H X (v.Scalar x) = refl
placed_at_lem t H X (v.Boolean x) = refl
placed_at_lem t H X (v.String o n) = refl
placed_at_lem t H X (v.FunctionReference o n) = refl
placed_at_lem t H X (v.List q) = list_cut H X q
placed_at_lem t H X (v.StructInstance q) = whole_cut H X q

module _ (t : ℕ) (w : List ℕ) (used p : ℕ) (l : p ≤ used) (u : Value) where
  pub placed_cut : placed_below t (heap_of p w) p u ≡ placed_below t (heap_of used w) p u
  placed_cut = rw (heap_split used p w l) (rw (length_heap p w) at (placed_at_lem t (heap_of p w) (cells_from (used - p) p w) u))

  depth_cut : Placed t (heap_of p w) p u → depth_in (heap_of p w) u ≡ depth_in (heap_of used w) u
  depth_cut f = rw (heap_split used p w l) (sym (depth_frame (heap_of p w) (cells_from (used - p) p w) p (let z = length_heap p w in omega arith) t u f))

-- ---- the elements of a block: i of n were looked at, the deepest was d

pub record Walk (t : ℕ) (H : List Cell) (p n d i : ℕ) : Type 0 where
  pub inside : i ≤ n
  pub all : elements_below t H p n (suc p) ≡ elements_below t H p (n - i) (suc p + i)
  pub deep : max d (deepest H (items (n - i) (suc p + i) H)) ≡ deepest H (items n (suc p) H)

pub walk_start : (t : ℕ) (H : List Cell) (p n : ℕ) → Walk t H p n 0 0
walk_start t H p n =
    let a : n - 0 ≡ n = omega arith in
    let b : suc p + 0 ≡ suc p = omega arith in
    record { inside = omega arith; all = rw (a, b); deep = rw (a, b) (let x = deepest H (items n (suc p) H) in omega arith) }

elements_one : (t : ℕ) (H : List Cell) (b n i : ℕ) → 0 < n → elements_below t H b n i ≡ element_below t H b (cell_in H i) && elements_below t H b (n - 1) (suc i)
unfolding elements_below
elements_one t H b zero i h = absurd (let z : ⊥ = omega arith in z)
elements_one t H b (suc n) i h = let z : suc n - 1 ≡ n = omega arith in rw z

deepest_one : (H : List Cell) (n i : ℕ) → 0 < n → deepest H (items n i H) ≡ max (depth_in H (item_in H i)) (deepest H (items (n - 1) (suc i) H))
unfolding items deepest
deepest_one H zero i h = absurd (let z : ⊥ = omega arith in z)
deepest_one H (suc n) i h = let z : suc n - 1 ≡ n = omega arith in rw z

element_head : (t : ℕ) (H : List Cell) (b : ℕ) (c : Cell) → is_head c ≡ true → element_below t H b c ≡ false
unfolding element_below
element_head t H b (item u) e = absurd (true≢false (sym e))
element_head t H b (head h) e = refl

element_item : (t : ℕ) (H : List Cell) (b : ℕ) (c : Cell) → is_head c ≡ false → element_below t H b c ≡ placed_below t H b (item_of c)
unfolding element_below
element_item t H b (item u) e = refl
element_item t H b (head h) e = absurd (true≢false e)

module _ (t : ℕ) (w : List ℕ) (used p : ℕ) where
  pub not_whole : (z : Bool) → z ≡ whole_below (heap_of used w) p used → not z ≡ true → false ≡ block_ok t (heap_of used w) p
  unfolding block_ok
  not_whole z g n = let y : whole_below (heap_of used w) p used ≡ false = sym g ∙ not-true _ n in rw (length_heap used w, y)

  module _ (z : Bool) (g : z ≡ whole_below (heap_of used w) p used) (n : not z ≡ false) (h : Header) (he : h ≡ header_of (payload_at w p)) where
    block_is : block_ok t (heap_of used w) p
        ≡ elements_below t (heap_of used w) p h.count (suc p) && eqb h.depth (suc (deepest (heap_of used w) (items h.count (suc p) (heap_of used w)))) && leb h.depth 64
    unfolding block_ok elements_in
    block_is = rw (length_heap used w, is_whole w used p z g n, head_p w used p z g n h he)

    bad_elements : elements_below t (heap_of used w) p h.count (suc p) ≡ false → false ≡ block_ok t (heap_of used w) p
    bad_elements e = rw (block_is, e)

    module _ (d i : ℕ) (u : Walk t (heap_of used w) p h.count d i) where
      module _ (l : i < h.count) where
        within : suc p + i < used
        within = let y = ends w used p z g n h he in omega arith

        pub element_room : 2 * used ≤ length w → 2 * (p + 1 + i) + 2 ≤ length w
        element_room r = let y = within in omega arith

        step : elements_below t (heap_of used w) p h.count (suc p)
            ≡ element_below t (heap_of used w) p (cell_in (heap_of used w) (suc p + i)) && elements_below t (heap_of used w) p (h.count - (i + 1)) (suc p + (i + 1))
        step =
            let c = h.count in
            let a : c - i - 1 ≡ c - (i + 1) = omega arith in
            let b : suc (suc p + i) ≡ suc p + (i + 1) = omega arith in
            u.all ∙ (rw (a, b) at (elements_one t (heap_of used w) p (c - i) (suc p + i) (omega arith)))

        place : suc p + i ≡ p + 1 + i
        place = omega arith

        module _ (y : Bool) (ey : y ≡ eqb (kind_at w (p + 1 + i)) 6) where
          headed : is_head (cell_in (heap_of used w) (suc p + i)) ≡ y
          headed = sym (kind_is w used (suc p + i) within) ∙ rw place (sym ey)

          pub bad_head : y ≡ true → false ≡ block_ok t (heap_of used w) p
          bad_head e = bad_elements (step ∙ rw (element_head t (heap_of used w) p (cell_in (heap_of used w) (suc p + i)) (headed ∙ e)))

          module _ (e : y ≡ false) (x : Value) (ex : x ≡ value_at w (p + 1 + i)) where
            x_is : item_in (heap_of used w) (suc p + i) ≡ x
            x_is = item_is w used (suc p + i) within (headed ∙ e) ∙ rw place (sym ex)

            here : element_below t (heap_of used w) p (cell_in (heap_of used w) (suc p + i)) ≡ placed_below t (heap_of p w) p x
            unfolding item_in
            here =
                element_item t (heap_of used w) p (cell_in (heap_of used w) (suc p + i)) (headed ∙ e) ∙ ap (λ (c : Value). placed_below t (heap_of used w) p c) x_is
                ∙ sym (placed_cut t w used p (let c = within in omega arith) x)

            module _ (o : Bool) (eo : o ≡ placed_below t (heap_of p w) p x) where
              pub bad_place : not o ≡ true → false ≡ block_ok t (heap_of used w) p
              bad_place f = bad_elements (step ∙ rw (here ∙ sym eo ∙ not-true _ f))

              module _ (f : not o ≡ false) where
                good_place : placed_below t (heap_of p w) p x ≡ true
                good_place = sym eo ∙ not-false _ f

                pub held : Held (heap_of p w) p x
                held = record { texts = t; placed = good_place }

                module _ (m : ℕ) (em : m ≡ depth_in (heap_of p w) x) where
                  all_next : elements_below t (heap_of used w) p h.count (suc p) ≡ elements_below t (heap_of used w) p (h.count - (i + 1)) (suc p + (i + 1))
                  all_next = step ∙ rw (here ∙ good_place)

                  deep_next : max d (max m (deepest (heap_of used w) (items (h.count - (i + 1)) (suc p + (i + 1)) (heap_of used w)))) ≡ deepest (heap_of used w)
                      (items h.count (suc p) (heap_of used w))
                  deep_next =
                      let c = h.count in
                      let H = heap_of used w in
                      let a : c - i - 1 ≡ c - (i + 1) = omega arith in
                      let b : suc (suc p + i) ≡ suc p + (i + 1) = omega arith in
                      let q : deepest H (items (c - i) (suc p + i) H) ≡ max (depth_in H (item_in H (suc p + i))) (deepest H (items (c - (i + 1)) (suc p + (i + 1)) H)) =
                      rw (a, b) at (deepest_one H (c - i) (suc p + i) (omega arith)) in
                      let s : depth_in H (item_in H (suc p + i)) ≡ m = ap (λ (r : Value). depth_in H r) x_is ∙ sym (em ∙ depth_cut t w used p (let r = within in omega arith) x good_place) in
                      rw (q, s) at u.deep

                  pub walk_more : (d' : ℕ) → d' ≡ max d m → Walk t (heap_of used w) p h.count d' (i + 1)
                  walk_more d' e' = record {
                    inside = omega arith;
                    all = all_next;
                    deep = let r = deep_next in let s = deepest (heap_of used w)
                        (items (h.count - (i + 1)) (suc p + (i + 1)) (heap_of used w)) in omega arith;
                  }

      module _ (l : h.count ≤ i) where
        all_true : elements_below t (heap_of used w) p h.count (suc p) ≡ true
        unfolding elements_below
        all_true = u.all ∙ (let y : h.count - i ≡ 0 = omega arith in rw y)

        deep_is : deepest (heap_of used w) (items h.count (suc p) (heap_of used w)) ≡ d
        unfolding items deepest
        deep_is =
            let y : h.count - i ≡ 0 = omega arith in
            let m : max d 0 ≡ deepest (heap_of used w) (items h.count (suc p) (heap_of used w)) = rw y at u.deep in
            let x : max d 0 ≡ d = omega arith in
            sym m ∙ x

        last : block_ok t (heap_of used w) p ≡ eqb h.depth (suc d) && leb h.depth 64
        last = block_is ∙ rw (all_true, deep_is)

        pub bad_64 : 64 < h.depth → false ≡ block_ok t (heap_of used w) p
        bad_64 m = rw (last, lt-leb _ _ m) (sym (and-false (eqb h.depth (suc d))))

        pub bad_shallow : h.depth ≤ d → false ≡ block_ok t (heap_of used w) p
        bad_shallow m = rw (last, ne_eqb h.depth (suc d) (λ e. omega arith))

        pub last_is : h.depth ≤ 64 → d < h.depth → eqb (h.depth - d) 1 ≡ block_ok t (heap_of used w) p
        last_is m q =
            let c = h.depth in
            rw (last, le-leb _ _ m)
            (same_test (eqb (c - d) 1) (eqb c (suc d) && true)
            (λ e. let r = eqb-true (c - d) 1 e in rw (eq-eqb c (suc d) (omega arith)))
            (λ e. let r = eqb-false (c - d) 1 e in rw (ne_eqb c (suc d) (λ s. r (omega arith)))))

-- ---- exact words

module _ (w : List ℕ) where
  abbrev pub exact_at : ℕ → Bool
  exact_at i = exact_cell (kind_at w i) (payload_at w i)

  all_exact : (n i : ℕ) → ((k : ℕ) → k < n → exact_at (i + k) ≡ true) → exact_cells n i w ≡ true
  unfolding exact_cells
  all_exact zero i h = refl
  all_exact (suc n) i h =
      let first : exact_at i ≡ true = (let z : i + 0 ≡ i = omega arith in rw z at (h 0 (omega arith))) in
      rw (first, all_exact n (suc i) (λ k l. let z : i + suc k ≡ suc i + k = omega arith in rw z at (h (suc k) (omega arith)))) refl

  one_broken : (n i k : ℕ) → k < n → exact_at (i + k) ≡ false → exact_cells n i w ≡ false
  unfolding exact_cells
  one_broken zero i k l e = absurd (omega (arith, l))
  one_broken (suc n) i zero l e = let z : i + 0 ≡ i = omega arith in rw (rw z at e) refl
  one_broken (suc n) i (suc k) l e =
      let z : i + suc k ≡ suc i + k = omega arith in
      rw (one_broken n (suc i) k (omega arith) (rw z at e)) (and-false (exact_at i))

  pub exact_judged : (n : ℕ) (r : Bool)
      → MatchBool r (AllWithin (λ i. exact_at i ≡ true) (range_with_len 0 n) 0 (length (range_with_len 0 n))) ((k : ℕ) × (k < length (range_with_len 0 n)) × HoldsAt (λ i. exact_at i ≡ false) (range_with_len 0 n) k)
      → r ≡ exact_cells n 0 w
  exact_judged n true m = sym (all_exact n 0 (λ k l. rw (get_or-range_with_len 0 n k 0 l) at (m k 0 (omega arith) (omega (arith, length-range_with_len 0 n)))))
  exact_judged n false m =
      let l : m.0 < n = omega (arith, m.1, length-range_with_len 0 n) in
      sym (one_broken n 0 m.0 l (rw (get_or-range_with_len 0 n m.0 0 l) at (m.2 0)))

-- ---- block by block

pub record Scanned (t : ℕ) (H : List Cell) (used p : ℕ) : Type 0 where
  pub inside : p ≤ used
  pub left : ℕ
  pub enough : used ≤ p + left
  pub means : heap_ok t H ≡ blocks_from left t H p

pub not_exact : (t used : ℕ) (w : List ℕ) (z : Bool) → z ≡ exact_cells used 0 w → not z ≡ true → false ≡ exact_cells used 0 w && heap_ok t (heap_of used w)
not_exact t used w z e n = rw (← e, not-true z n)

blocks_one : (f t : ℕ) (H : List Cell) (p : ℕ) → (p ≡ length H → ⊥) → 0 < f → blocks_from f t H p ≡ block_ok t H p && blocks_from (f - 1) t H (suc p + (head_in H p).count)
unfolding blocks_from
blocks_one zero t H p n h = absurd (let z : ⊥ = omega arith in z)
blocks_one (suc f) t H p n h = let z : suc f - 1 ≡ f = omega arith in rw (ne_eqb _ _ n, z)

module _ (t used : ℕ) (w : List ℕ) where
  pub scan_start : Scanned t (heap_of used w) used 0
  unfolding heap_ok
  scan_start = record { inside = omega arith; left = used; enough = omega arith; means = rw (length_heap used w) }

  module _ (x : Bool) (ex : x ≡ exact_cells used 0 w) (nx : not x ≡ false) (p : ℕ) (s : Scanned t (heap_of used w) used p) where
    all_is : exact_cells used 0 w && heap_ok t (heap_of used w) ≡ blocks_from s.left t (heap_of used w) p
    all_is = rw (← ex, not-false x nx) s.means

    pub scan_end : used ≤ p → true ≡ exact_cells used 0 w && heap_ok t (heap_of used w)
    scan_end l = sym (all_is ∙ at_end_lem s.left t (heap_of used w) p (let y = s.inside in let z = length_heap used w in omega arith))

  module _ (p : ℕ) (s : Scanned t (heap_of used w) used p) (l : p < used) (z : Bool) (e : z ≡ block_ok t (heap_of used w) p) where
    scan_step : blocks_from s.left t (heap_of used w) p ≡ z && blocks_from (s.left - 1) t (heap_of used w) (suc p + (head_in (heap_of used w) p).count)
    scan_step = rw e (blocks_one s.left t (heap_of used w) p (λ q. let y = length_heap used w in omega arith) (let y = s.enough in omega arith))

    pub scan_bad : (x : Bool) → x ≡ exact_cells used 0 w → not x ≡ false → not z ≡ true → false ≡ exact_cells used 0 w && heap_ok t (heap_of used w)
    scan_bad x ex nx n = sym (all_is x ex nx p s ∙ scan_step ∙ rw (not-true z n))

    module _ (n : not z ≡ false) where
      block : Block t (heap_of used w) p
      block = block_of_lem t (heap_of used w) p (sym e ∙ not-false _ n)

      block_whole : Whole (heap_of used w) p used
      block_whole = rw (length_heap used w) at block.whole

      pub block_room : 2 * used ≤ length w → 2 * p + 2 ≤ length w
      block_room = header_room w used p block_whole

      module _ (h : Header) (he : h ≡ header_of (payload_at w p)) where
        block_head : head_in (heap_of used w) p ≡ h
        block_head = header_is w used p block_whole ∙ sym he

        pub block_ends : p + 1 + h.count ≤ used
        block_ends = let y : suc p + h.count ≤ used = rw block_head at block_whole.ends in omega arith

        pub scan_less : used - (p + 1 + h.count) < used - p
        scan_less = let y = block_ends in omega arith

        pub scan_more : Scanned t (heap_of used w) used (p + 1 + h.count)
        scan_more =
            let y : suc p + h.count ≡ p + 1 + h.count = omega arith in
            record {
              inside = block_ends;
              left = s.left - 1;
              enough = let x = s.enough in omega arith;
              means = s.means ∙ scan_step ∙ rw (not-false z n, block_head, y);
            }
