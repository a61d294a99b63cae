-- Building: the elements on the stack, the two loops, and the whole.
use mathlib.Core.Path.{◌≡◌, refl, sym, ap, ◌∙◌, subst}
use mathlib.Core.Bool.{Bool, true, false}
use mathlib.Core.List.{List, [], ◌∷◌, ◌++◌, map, reverse_aux, append_assoc}
use Prim.Native.Nat.{ℕ, zero, suc, ◌+◌, ◌-◌, ◌*◌, ◌/◌, ◌<◌, ◌≤◌, max}
use native.Mathlib.Omega.{arith}
use borrow.Author.Tests.{lt-ltb, le-ltb}
use lib.ListN.{length, get_or, set, take, drop, length-take, length-reverse}
use lib.Seq.{take-suc, drop-cons, take-length, drop-length, get_or-take, get_or-set_other}
use denote.Enum.Declared.{tag_of}
use types.Run.{OneOf, miss}
use Rattle.model.specs.contracts.Value.{the_type}
use Rattle.model.specs.declared.Value.{Value}
use Rattle.model.specs.declared.Value.TheVariants as v
use Rattle.model.specs.declared.Header.{Header}
use Rattle.model.specs.declared.Fault.TheVariants as f
use Rattle.model.specs.Values.{kind_at, payload_at, value_at, put_words, places, vals}
use Rattle.model.specs.Heap as heap
use Rattle.model.specs.Heap.{Cell, item, head, header_of, cell_kind, cell_payload, heap_of, depth_in, deepest, list_elements, struct_fields, block_of, build_of, placed_below, exact_cell, exact_cells}
use Rattle.value.specs.Links.{Written}
use Rattle.value.proofs.Coding.{and_left, and_right, cell_exact}
use Rattle.value.proofs.Stores.{length_vals, vals_at, vals_upward, get_d_values, kind_same, kind_other, payload_same, payload_other, stored_words, written_length, taken}
use Rattle.cells.specs.Links.{elements_of, Held, TopPre, Besides, CopyPost, BuildPost}
use Rattle.cells.proofs.Order.{and_both, Every, nil, cons, every_at, Whole, list_of, struct_of}
use Rattle.cells.proofs.Stands.{length_heap, header_is, header_room}
use Rattle.std.specs.Prelude.{Err, Ok}

-- ---- the elements

module _ (list : Bool) (sp n : ℕ) (s : List ℕ) (l : n ≤ sp) where
  length_top : length (take n (vals sp s)) ≡ n
  length_top = simp length-take (let z = length_vals sp s in omega arith)

  pub length_elements : length (elements_of list n (vals sp s)) ≡ n
  unfolding elements_of list_elements struct_fields
  length_elements = on list
    where
      on : (z : Bool) → length (elements_of z n (vals sp s)) ≡ n
      on true = length-reverse (take n (vals sp s)) ∙ length_top
      on false = length_top

  module _ (i : ℕ) (h : i < n) where
    pub element_up : list ≡ true → value_at s (sp - n + i) ≡ get_or (elements_of list n (vals sp s)) i (v.Boolean false)
    unfolding elements_of list_elements
    element_up e = rw (e, vals_upward n sp s l) (sym (get_d_values n (sp - n) s i (v.Boolean false) h))

    pub element_down : list ≡ false → value_at s (sp - 1 - i) ≡ get_or (elements_of list n (vals sp s)) i (v.Boolean false)
    unfolding elements_of struct_fields
    element_down e =
        let z : sp - suc i ≡ sp - 1 - i = omega arith in
        rw e (sym (get_or-take n (vals sp s) i _ h ∙ (rw z at (vals_at sp s i (v.Boolean false) (omega arith)))))

-- what holds of the values of a stack holds of the elements
module _ (P : Value → Type 0) where
  every_vals : (sp : ℕ) (s : List ℕ) → ((i : ℕ) → i < sp → P (value_at s i)) → Every P (vals sp s)
  unfolding vals
  every_vals zero s f = nil
  every_vals (suc sp) s f = cons (f sp (omega arith)) (every_vals sp s (λ i h. f i (omega arith)))

  every_take : (n : ℕ) {us : List Value} → Every P us → Every P (take n us)
  every_take zero e = nil
  every_take (suc n) nil = nil
  every_take (suc n) (cons p ps) = cons p (every_take n ps)

  every_onto : {us ws : List Value} → Every P us → Every P ws → Every P (reverse_aux us ws)
  every_onto nil q = q
  every_onto (cons p ps) q = every_onto ps (cons p q)

  pub every_element : (list : Bool) (sp n : ℕ) (s : List ℕ) → ((i : ℕ) → i < sp → P (value_at s i)) → Every P (elements_of list n (vals sp s))
  unfolding elements_of list_elements struct_fields
  every_element true sp n s f = every_onto (every_take n (every_vals sp s f)) nil
  every_element false sp n s f = every_take n (every_vals sp s f)

-- ---- the depth of a value

module _ (u : Value) (w : List ℕ) (used : ℕ) (k : Held (heap_of used w) used u) (p : ℕ) where
  held_list : u ≡ v.List p → Whole (heap_of used w) p used
  held_list e = list_of k.texts (heap_of used w) used p (subst (λ (x : Value). placed_below k.texts (heap_of used w) used x ≡ true) e k.placed)

  held_struct : u ≡ v.StructInstance p → Whole (heap_of used w) p used
  held_struct e = struct_of k.texts (heap_of used w) used p (subst (λ (x : Value). placed_below k.texts (heap_of used w) used x ≡ true) e k.placed)

  pub list_room : u ≡ v.List p → 2 * used ≤ length w → 2 * p + 2 ≤ length w
  list_room e = header_room w used p (held_list e)

  pub struct_room : u ≡ v.StructInstance p → 2 * used ≤ length w → 2 * p + 2 ≤ length w
  struct_room e = header_room w used p (held_struct e)

  pub list_depth : u ≡ v.List p → (h : Header) → h ≡ header_of (payload_at w p) → h.depth ≡ depth_in (heap_of used w) u
  unfolding depth_in
  list_depth e h q = rw e (ap (λ (x : Header). x.depth) (q ∙ sym (header_is w used p (held_list e))))

  pub struct_depth : u ≡ v.StructInstance p → (h : Header) → h ≡ header_of (payload_at w p) → h.depth ≡ depth_in (heap_of used w) u
  unfolding depth_in
  struct_depth e h q = rw e (ap (λ (x : Header). x.depth) (q ∙ sym (header_is w used p (held_struct e))))

pub plain_depth : (u : Value) (H : List Cell) → OneOf (0 ∷ 1 ∷ 2 ∷ 3 ∷ []) (tag_of the_type u) → 0 ≡ depth_in H u
unfolding depth_in
plain_depth (v.Scalar x) H h = refl
plain_depth (v.Boolean x) H h = refl
plain_depth (v.String o n) H h = refl
plain_depth (v.FunctionReference o n) H h = refl
plain_depth (v.List p) H h = absurd (miss (0 ∷ 1 ∷ 2 ∷ 3 ∷ []) 4 tt h)
plain_depth (v.StructInstance p) H h = absurd (miss (0 ∷ 1 ∷ 2 ∷ 3 ∷ []) 5 tt h)

-- ---- the deepest element: d is the deepest of the first i

pub record Depth (H : List Cell) (us : List Value) (n d i : ℕ) : Type 0 where
  pub inside : i ≤ n
  pub means : max d (deepest H (drop i us)) ≡ deepest H us

module _ (H : List Cell) (us : List Value) (n : ℕ) where
  pub depth_start : Depth H us n 0 0
  depth_start = record { inside = omega arith; means = let y = deepest H us in omega arith }

  module _ (e : length us ≡ n) (d i : ℕ) (r : Depth H us n d i) where
    pub depth_end : n ≤ i → d ≡ deepest H us
    unfolding deepest
    depth_end h =
        let z : i ≡ length us = (let y = r.inside in omega arith) in
        let m : max d 0 ≡ deepest H us = rw (z, drop-length us) at r.means in
        let y : d ≡ max d 0 = omega arith in
        y ∙ m

    module _ (h : i < n) (u : Value) (eu : u ≡ get_or us i (v.Boolean false)) (x : ℕ) (ex : x ≡ depth_in H u) where
      depth_next : max d (max x (deepest H (drop (i + 1) us))) ≡ deepest H us
      unfolding deepest
      depth_next =
          let z : suc i ≡ i + 1 = omega arith in
          let o : drop i us ≡ u ∷ drop (i + 1) us = drop-cons us i (v.Boolean false) (omega arith) ∙ ap (λ (m : ℕ). get_or us i (v.Boolean false) ∷ drop m us) z ∙ rw (← eu) in
          rw (o, ← ex) at r.means

      pub depth_more : (d' : ℕ) → d' ≡ max d x → Depth H us n d' (i + 1)
      depth_more d' q = record { inside = omega arith; means = let m = depth_next in let y = deepest H (drop (i + 1) us) in omega arith }

pub held_at : (list : Bool) (s : List ℕ) (sp n : ℕ) (w : List ℕ) (used : ℕ) → TopPre s sp n w used → (i : ℕ) → i < n
    → (u : Value) → u ≡ get_or (elements_of list n (vals sp s)) i (v.Boolean false) → Held (heap_of used w) used u
held_at list s sp n w used pre i h u e =
    rw e (every_at (every_element (Held (heap_of used w) used) list sp n s pre.held) i (let y = length_elements list sp n s pre.enough in omega arith))

-- ---- the room

pub room_small : (s : List ℕ) → length s / 2 < 0xFFFF_FFFF → length s / 2 ≡ places 2 s
unfolding places
room_small s h = omega arith

pub room_large : (s : List ℕ) → 0xFFFF_FFFF ≤ length s / 2 → 0xFFFF_FFFF ≡ places 2 s
unfolding places
room_large s h = omega arith

room_is : (s : List ℕ) (r : ℕ) → r ≡ places 2 s → (2 * r ≤ length s) × (r ≤ 0xFFFF_FFFF)
unfolding places
room_is s r e = (omega arith, omega arith)

-- ---- a cell is written behind the others

exact_before : (n i : ℕ) (s : List ℕ) (p k a : ℕ) → i + n ≤ p → exact_cells n i (put_words s p k a) ≡ exact_cells n i s
unfolding exact_cells
exact_before zero i s p k a h = refl
exact_before (suc n) i s p k a h =
    rw (kind_other s p k a i (λ e. omega arith), payload_other s p k a i (λ e. omega arith), exact_before n (suc i) s p k a (omega arith))

exact_more : (n i : ℕ) (s : List ℕ) → exact_cells n i s ≡ true → exact_cell (kind_at s (i + n)) (payload_at s (i + n)) ≡ true → exact_cells (suc n) i s ≡ true
unfolding exact_cells
exact_more zero i s e f = let z : i + 0 ≡ i = omega arith in and_both (exact_cell (kind_at s i) (payload_at s i)) true (rw z at f) refl
exact_more (suc n) i s e f =
    let z : i + suc n ≡ suc i + n = omega arith in
    let x = exact_cell (kind_at s i) (payload_at s i) in
    let y = exact_cells n (suc i) s in
    and_both x (exact_cells (suc n) (suc i) s) (and_left x y e) (exact_more n (suc i) s (and_right x y e) (rw z at f))

module _ {w : List ℕ} {j : ℕ} {x : Cell} {w' : List ℕ} (q : Written w j x w') where
  written_exact : 2 * j + 2 ≤ length w → exact_cells j 0 w ≡ true → exact_cells (j + 1) 0 w' ≡ true
  written_exact h e =
      let k = cell_kind x in let a = cell_payload x in
      let z : j + 1 ≡ suc j = omega arith in
      let y : 0 + j ≡ j = omega arith in
      rw (z, stored_words q) (exact_more j 0 (put_words w j k a) (exact_before j 0 w j k a (omega arith) ∙ e)
      (rw (y, kind_same w j k a h, payload_same w j k a h) (cell_exact x q.fine)))

  written_besides : Besides j (j + 1) w w'
  unfolding put_words
  written_besides k n =
      rw (stored_words q)
      (get_or-set_other (set w (2 * j) (cell_kind x)) (2 * j + 1) k (cell_payload x) 0 (λ e. n (omega arith) (omega arith))
      ∙ get_or-set_other w (2 * j) k (cell_kind x) 0 (λ e. n (omega arith) (omega arith)))

besides_join : (i j k : ℕ) (w w1 w2 : List ℕ) → i ≤ j → j ≤ k → Besides i j w w1 → Besides j k w1 w2 → Besides i k w w2
besides_join i j k w w1 w2 h l f g x n = g x (λ a b. n (omega arith) b) ∙ f x (λ a b. n a (omega arith))

-- ---- copying: the first i elements are copied

pub record Copied (us : List Value) (from n : ℕ) (w₀ w : List ℕ) (i : ℕ) : Type 0 where
  pub inside : i ≤ n
  pub size : length w ≡ length w₀
  pub means : heap_of (from + i) w ≡ heap_of from w₀ ++ map item (take i us)
  pub exact : exact_cells from 0 w₀ ≡ true → exact_cells (from + i) 0 w ≡ true
  pub besides : Besides from (from + i) w₀ w

append_nil : (l : List Cell) → l ++ [] ≡ l
append_nil [] = refl
append_nil (x ∷ l) = ap (λ (t : List Cell). x ∷ t) (append_nil l)

map_more : (xs : List Value) (u : Value) → map item (xs ++ u ∷ []) ≡ map item xs ++ item u ∷ []
map_more [] u = refl
map_more (x ∷ xs) u = ap (λ (t : List Cell). item x ∷ t) (map_more xs u)

pub copy_start : (us : List Value) (from n : ℕ) (w : List ℕ) → Copied us from n w w 0
copy_start us from n w =
    let z : from + 0 ≡ from = omega arith in
    record { inside = omega arith; size = refl; means = rw z (sym (append_nil (heap_of from w))); exact = λ e. rw z e; besides = λ k h. refl }

module _ (us : List Value) (from n : ℕ) (w₀ w : List ℕ) (i : ℕ) (c : Copied us from n w₀ w i) (e : length us ≡ n) where
  pub copy_end : n ≤ i → CopyPost us from n w₀ w
  copy_end h =
      let z : i ≡ n = (let y = c.inside in omega arith) in
      let y : take n us ≡ us = ap (λ (m : ℕ). take m us) (sym e) ∙ take-length us in
      record { means = rw (z, y) at c.means; exact = rw z at c.exact; besides = rw z at c.besides }

  module _ (room : 2 * (from + n) ≤ length w₀) (h : i < n) where
    pub copy_room_lem : 2 * (from + i) + 2 ≤ length w
    copy_room_lem = let y = c.size in omega arith

    pub copy_more : (u : Value) → u ≡ get_or us i (v.Boolean false) → (w' : List ℕ) → Written w (from + i) (item u) w' → Copied us from n w₀ w' (i + 1)
    copy_more u eu w' q =
        let z : from + i + 1 ≡ from + (i + 1) = omega arith in
        record {
          inside = omega arith;
          size = written_length q ∙ c.size;
          means =
              let a : suc (from + i) ≡ from + (i + 1) = omega arith in
              let b : suc i ≡ i + 1 = omega arith in
              let t : take (i + 1) us ≡ take i us ++ u ∷ [] = rw (b, ← eu) at (take-suc us i (v.Boolean false) (omega arith)) in
              (rw a at (taken q copy_room_lem)) ∙ ap (λ (l : List Cell). l ++ item u ∷ []) c.means
              ∙ append_assoc (heap_of from w₀) (map item (take i us)) (item u ∷ [])
              ∙ ap (λ (l : List Cell). heap_of from w₀ ++ l) (sym (map_more (take i us) u) ∙ ap (map item) (sym t));
          exact = λ x. rw z at (written_exact q copy_room_lem (c.exact x));
          besides = besides_join from (from + i) (from + (i + 1)) w₀ w w' (omega arith) (omega arith) c.besides (rw z at (written_besides q));
        }

-- ---- the whole

module _ (list : Bool) (s : List ℕ) (sp n k : ℕ) (w : List ℕ) (used : ℕ) (pre : TopPre s sp n w used) (d : ℕ) (ed : d ≡ deepest (heap_of used w) (elements_of list n (vals sp s))) where
  pub too_deep : 64 ≤ d → BuildPost list s sp n k w used (Err f.TooDeep) w
  unfolding build_of
  too_deep h = record { means = rw (lt-ltb 64 (suc (deepest (heap_of used w) (elements_of list n (vals sp s)))) (omega arith)); after = refl }

  need_is : length (heap_of used w) + suc (length (elements_of list n (vals sp s))) ≡ used + n + 1
  need_is = let x = length_heap used w in let y = length_elements list sp n s pre.enough in omega arith

  module _ (h : d < 64) (r : ℕ) (er : r ≡ places 2 w) where
    pub cells_full : r < used + n + 1 → BuildPost list s sp n k w used (Err f.CellsFull) w
    unfolding build_of
    cells_full l = record {
      means =
          let x = need_is in
          rw (
            le-ltb 64 (suc (deepest (heap_of used w) (elements_of list n (vals sp s)))) (omega arith),
            lt-ltb (places 2 w) (length (heap_of used w) + suc (length (elements_of list n (vals sp s)))) (omega arith),
          );
      after = refl;
    }

    module _ (l : used + n + 1 ≤ r) where
      pub room_head : 2 * used + 2 ≤ length w
      room_head = let x = (room_is w r er).0 in omega arith

      module _ (w1 : List ℕ) (q : Written w used (head (record { count = n; number = k; depth = d + 1 })) w1) where
        pub room_copy : 2 * (used + 1 + n) ≤ length w1
        room_copy = let x = (room_is w r er).0 in let y = written_length q in omega arith

        pub built_is : (w2 : List ℕ) → CopyPost (elements_of list n (vals sp s)) (used + 1) n w1 w2 → length w2 ≡ length w1
            → BuildPost list s sp n k w used (Ok (used + n + 1)) w2
        unfolding build_of block_of
        built_is w2 c e =
            let y : used + 1 + n ≡ used + n + 1 = omega arith in
            record {
              means =
                  let x = need_is in
                  let z : suc used ≡ used + 1 = omega arith in
                  let a : d + 1 ≡ suc (deepest (heap_of used w) (elements_of list n (vals sp s))) = omega arith in
                  let b : heap_of (used + 1) w1 ≡ heap_of used w ++ head (record { count = n; number = k; depth = d + 1 }) ∷ [] = rw z at (taken q room_head) in
                  rw (
                    le-ltb 64 (suc (deepest (heap_of used w) (elements_of list n (vals sp s)))) (omega arith),
                    le-ltb (places 2 w) (length (heap_of used w) + suc (length (elements_of list n (vals sp s)))) (omega arith),
                  )
                  (ap heap.built (rw (← y, c.means, b, append_assoc, length_elements list sp n s pre.enough, ← a)));
              after = record {
                count = refl;
                fits = let x = (room_is w r er).1 in omega arith;
                room = let x = (room_is w r er).0 in let z = written_length q in omega arith;
                exact = λ x. rw y at (c.exact (written_exact q room_head x));
                besides = rw y at (besides_join used (used + 1) (used + 1 + n) w w1 w2 (omega arith) (omega arith) (written_besides q) c.besides);
              };
            }
