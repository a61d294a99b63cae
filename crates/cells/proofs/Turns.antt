-- Equality of two lists or two structs: the loop over the elements and its laws.
use Rattle.std.specs.Prelude.{if◌then◌else◌, None, Option, Some}
use mathlib.Core.Path.{◌≡◌, refl, sym, ap, ◌∙◌}
use mathlib.Core.Bool.{Bool, true, false, ◌&&◌}
use mathlib.Core.List.{List}
use Prim.Native.Nat.{ℕ, zero, suc, ◌+◌, ◌-◌, ◌*◌, ◌<◌, ◌≤◌}
use native.Mathlib.Omega.{arith}
use borrow.Author.Tests.{eq-eqb, ne_eqb, le-leb, lt-leb, leb-true, leb-false}
use lib.Dec.{eqb, leb}
use lib.ListN.{length}
use Rattle.model.specs.declared.Value.{Value}
use Rattle.model.specs.declared.Value.TheVariants as v
use Rattle.model.specs.declared.Header.{Header}
use Rattle.model.specs.Values.{payload_at, value_at, if_list, if_struct}
use Rattle.model.specs.Heap.{Cell, header_of, heap_of, item_in, head_in, items, elements_in}
use Rattle.model.specs.Equality.{Same, same, said, and_next, same_elements, same_blocks, same_pair, same_of}
use Rattle.cells.specs.declared.Pair.{Pair}
use Rattle.cells.specs.declared.Pair.TheVariants.{Said, Blocks}
use Rattle.cells.specs.Links.{verdict, EqualPre, Inside, Alike, lists, structs, Compared}
use Rattle.cells.proofs.Order.{same_test, Whole, Placed, list_of, struct_of, placed_more, Element, good_of}
use Rattle.cells.proofs.Meaning.{same_step}
use Rattle.cells.proofs.Stands.{length_heap, item_is, header_is, header_room}

-- ---- a pair of elements, with the units that are left

pub said_verdict : (b : Bool) (l : ℕ) → verdict l (said b) ≡ Some (b, l)
unfolding verdict
said_verdict b l = rw (le-leb 0 l (omega arith)) (ap (λ (k : ℕ). Some (b, k)) (omega arith))

none_left : (o m : Same) → verdict 0 (and_next o m) ≡ None
unfolding verdict and_next
none_left (same false k) m = rw (lt-leb (suc k) 0 (omega arith))
none_left (same true k) (same b n) = rw (lt-leb (suc k + n) 0 (omega arith))

done_is : (l k : ℕ) (b c : Bool) (n : ℕ) (z : Bool) → leb k l ≡ z → ◌≡◌ {A = Option (Bool × ℕ)} (if z then Some (b, l - k) else None) (Some (c, n)) → (k ≤ l) × (b ≡ c) × (l - k ≡ n)
done_is l k b c n true e h =
    let q : ◌≡◌ {A = Bool × ℕ} (b, l - k) (c, n) = cc in
    (leb-true _ _ e, ap (λ (p : Bool × ℕ). p.0) q, ap (λ (p : Bool × ℕ). p.1) q)
done_is l k b c n false e h = absurd (let z : ◌≡◌ {A = ℕ} 0 1 = cc in omega arith)

out_is : (l k : ℕ) (b z : Bool) → leb k l ≡ z → ◌≡◌ {A = Option (Bool × ℕ)} (if z then Some (b, l - k) else None) None → l < k
out_is l k b true e h = absurd (let z : ◌≡◌ {A = ℕ} 0 1 = cc in omega arith)
out_is l k b false e h = leb-false _ _ e

on_alike : (k l n : ℕ) (m : Same) → k ≤ l → l - k ≡ n → verdict (suc l) (and_next (same true k) m) ≡ verdict n m
unfolding verdict and_next
on_alike k l n (same b j) h e =
    let p : leb (suc k + j) (suc l) ≡ leb j n =
    same_test (leb (suc k + j) (suc l)) (leb j n)
    (λ t. let x = leb-true (suc k + j) (suc l) t in le-leb j n (omega arith)) (λ t. let x = leb-false (suc k + j) (suc l) t in lt-leb j n (omega arith)) in
    let q : suc l - (suc k + j) ≡ n - j = omega arith in
    rw (p, q)

on_unlike : (k l n : ℕ) (m : Same) → k ≤ l → l - k ≡ n → verdict (suc l) (and_next (same false k) m) ≡ Some (false, n)
unfolding verdict and_next
on_unlike k l n m h e = let q : suc l - suc k ≡ n = omega arith in rw (le-leb (suc k) (suc l) (omega arith), q)

on_out : (b : Bool) (k l : ℕ) (m : Same) → l < k → verdict (suc l) (and_next (same b k) m) ≡ None
unfolding verdict and_next
on_out false k l m h = rw (lt-leb (suc k) (suc l) (omega arith))
on_out true k l (same b j) h = rw (lt-leb (suc k + j) (suc l) (omega arith))

alike_then : (o m : Same) (l n : ℕ) → verdict l o ≡ Some (true, n) → verdict (suc l) (and_next o m) ≡ verdict n m
unfolding verdict
alike_then (same b k) m l n h = let d = done_is l k b true n (leb k l) refl h in rw d.1 (on_alike k l n m d.0 d.2)

unlike_then : (o m : Same) (l n : ℕ) → verdict l o ≡ Some (false, n) → verdict (suc l) (and_next o m) ≡ Some (false, n)
unfolding verdict
unlike_then (same b k) m l n h = let d = done_is l k b false n (leb k l) refl h in rw d.1 (on_unlike k l n m d.0 d.2)

out_then : (o m : Same) (l : ℕ) → verdict l o ≡ None → verdict (suc l) (and_next o m) ≡ None
unfolding verdict
out_then (same b k) m l h = on_out b k l m (out_is l k b (leb k l) refl h)

-- ---- two lists or two structs

-- a bound of the places that a value reaches: it falls from a block to its elements
unfoldable pub rank : Value → ℕ
rank (v.Scalar x) = 0
rank (v.Boolean x) = 0
rank (v.String o n) = 0
rank (v.FunctionReference o n) = 0
rank (v.List p) = suc p
rank (v.StructInstance p) = suc p

rank_below : (t : ℕ) (H : List Cell) (b : ℕ) (u : Value) → Placed t H b u → rank u ≤ b
unfolding rank
rank_below t H b (v.Scalar x) f = omega arith
rank_below t H b (v.Boolean x) f = omega arith
rank_below t H b (v.String o n) f = omega arith
rank_below t H b (v.FunctionReference o n) f = omega arith
rank_below t H b (v.List p) f = let z = (list_of t H b p f).ends in omega arith
rank_below t H b (v.StructInstance p) f = let z = (struct_of t H b p f).ends in omega arith

alike_rank : {a b : Value} {p q : ℕ} → Alike a b p q → rank a ≡ suc p
unfolding rank
alike_rank lists = refl
alike_rank structs = refl

alike_left : (t : ℕ) (H : List Cell) (m : ℕ) {a b : Value} {p q : ℕ} → Alike a b p q → Placed t H m a → Whole H p m
alike_left t H m (lists {p}) f = list_of t H m p f
alike_left t H m (structs {p}) f = struct_of t H m p f

alike_right : (t : ℕ) (H : List Cell) (m : ℕ) {a b : Value} {p q : ℕ} → Alike a b p q → Placed t H m b → Whole H q m
alike_right t H m (lists {q = q}) f = list_of t H m q f
alike_right t H m (structs {q = q}) f = struct_of t H m q f

alike_pair : (r : Value → Value → Same) (t : List ℕ) (H : List Cell) {a b : Value} {p q : ℕ} → Alike a b p q → same_pair r t H a b ≡ same_blocks r H p q
unfolding same_pair if_list if_struct
alike_pair r t H lists = refl
alike_pair r t H structs = refl

module _ (t w : List ℕ) (used : ℕ) (a b : Value) (pre : EqualPre t w used a b) where
  all_left : Placed (length t) (heap_of used w) (length (heap_of used w)) a
  all_left = rw (length_heap used w) pre.left

  all_right : Placed (length t) (heap_of used w) (length (heap_of used w)) b
  all_right = rw (length_heap used w) pre.right

  pub inside : Inside (length t) a × Inside (length t) b
  inside = (record { heap = heap_of used w; below = used; placed = pre.left }, record { heap = heap_of used w; below = used; placed = pre.right })

  opened : same_of t (heap_of used w) a b ≡ same_pair (λ x y. same_of t (heap_of used w) x y) t (heap_of used w) a b
  opened = same_step t (heap_of used w) (good_of (length t) (heap_of used w) pre.good) a b all_left all_right

compared : (t : List ℕ) (a b : Value) (r : Pair) → Compared t a b r → (r' : Pair) → r ≡ r' → Compared t a b r'
compared t a b r c r' e = rw e at c

pub said_is : (t w : List ℕ) (used : ℕ) (a b : Value) → EqualPre t w used a b → (l : ℕ) (r : Pair) → Compared t a b r → (x : Bool) → r ≡ Said x
    → Some (x, l) ≡ verdict l (same_of t (heap_of used w) a b)
said_is t w used a b pre l r c x e = sym (ap (verdict l) (opened t w used a b pre ∙ compared t a b r c (Said x) e _ _) ∙ said_verdict x l)

-- ---- the loop

-- i pairs of elements were alike: the verdict on all n of them is that on those that are left, with the units that are left
pub record Turn (t : List ℕ) (H : List Cell) (p q n l₀ l i : ℕ) : Type 0 where
  pub inside : i ≤ n
  pub means : verdict l₀ (same_elements (λ x y. same_of t H x y) (items n (suc p) H) (items n (suc q) H))
      ≡ verdict l (same_elements (λ x y. same_of t H x y) (items (n - i) (suc p + i) H) (items (n - i) (suc q + i) H))

one : (r : Value → Value → Same) (H : List Cell) (n p q : ℕ) → 0 < n
    → same_elements r (items n p H) (items n q H) ≡ and_next (r (item_in H p) (item_in H q)) (same_elements r (items (n - 1) (suc p) H) (items (n - 1) (suc q) H))
unfolding same_elements items
one r H zero p q h = absurd (let z : ⊥ = omega arith in z)
one r H (suc n) p q h = let z : suc n - 1 ≡ n = omega arith in rw z

module _ (t w : List ℕ) (used : ℕ) (a b : Value) (pre : EqualPre t w used a b) (r : Pair) (re : Compared t a b r) (p q : ℕ) (rb : r ≡ Blocks p q) where
  al : Alike a b p q
  al = compared t a b r re (Blocks p q) rb

  left_whole : Whole (heap_of used w) p used
  left_whole = alike_left (length t) (heap_of used w) used al pre.left

  right_whole : Whole (heap_of used w) q used
  right_whole = alike_right (length t) (heap_of used w) used al pre.right

  pub room_p : 2 * p + 2 ≤ length w
  room_p = header_room w used p left_whole pre.room

  pub room_q : 2 * q + 2 ≤ length w
  room_q = header_room w used q right_whole pre.room

  module _ (h k : Header) (he : h ≡ header_of (payload_at w p)) (ke : k ≡ header_of (payload_at w q)) where
    head_p : head_in (heap_of used w) p ≡ h
    head_p = header_is w used p left_whole ∙ sym he

    head_q : head_in (heap_of used w) q ≡ k
    head_q = header_is w used q right_whole ∙ sym ke

    whole_p : suc p + h.count ≤ used
    whole_p = rw head_p at left_whole.ends

    whole_q : suc q + k.count ≤ used
    whole_q = rw head_q at right_whole.ends

    same_is : same_of t (heap_of used w) a b ≡ (if eqb h.count k.count && eqb h.number k.number
        then same_elements (λ x y. same_of t (heap_of used w) x y) (items h.count (suc p) (heap_of used w)) (items k.count (suc q) (heap_of used w)) else said false)
    unfolding same_blocks elements_in
    same_is = opened t w used a b pre ∙ alike_pair (λ x y. same_of t (heap_of used w) x y) t (heap_of used w) al ∙ rw (head_p, head_q)

    module _ (l : ℕ) where
      unlike : eqb h.count k.count && eqb h.number k.number ≡ false → Some (false, l) ≡ verdict l (same_of t (heap_of used w) a b)
      unlike e = rw (same_is, e) (sym (said_verdict false l))

      pub counts_differ : (h.count ≡ k.count → ⊥) → Some (false, l) ≡ verdict l (same_of t (heap_of used w) a b)
      counts_differ n = unlike (rw (ne_eqb _ _ n))

      pub numbers_differ : h.count ≡ k.count → (h.number ≡ k.number → ⊥) → Some (false, l) ≡ verdict l (same_of t (heap_of used w) a b)
      numbers_differ e n = unlike (rw (eq-eqb _ _ e, ne_eqb _ _ n))

      pub turn_start : Turn t (heap_of used w) p q h.count l l 0
      turn_start =
          let n = h.count in
          let e0 : n - 0 ≡ n = omega arith in
          let e1 : suc p + 0 ≡ suc p = omega arith in
          let e2 : suc q + 0 ≡ suc q = omega arith in
          record { inside = omega arith; means = rw (e0, e1, e2) }

    module _ (ec : h.count ≡ k.count) (en : h.number ≡ k.number) (l₀ l i : ℕ) (u : Turn t (heap_of used w) p q h.count l₀ l i) where
      -- an answer that is the verdict on those that are left
      answer : (r' : Option (Bool × ℕ))
          → verdict l (same_elements (λ x y. same_of t (heap_of used w) x y) (items (h.count - i) (suc p + i) (heap_of used w)) (items (h.count - i) (suc q + i) (heap_of used w))) ≡ r'
          → r' ≡ verdict l₀ (same_of t (heap_of used w) a b)
      answer r' e = rw (same_is, eq-eqb _ _ ec, eq-eqb _ _ en, ← ec) (sym (u.means ∙ e))

      pub finish : h.count ≤ i → Some (true, l) ≡ verdict l₀ (same_of t (heap_of used w) a b)
      unfolding same_elements items
      finish z = answer (Some (true, l)) (let y : h.count - i ≡ 0 = omega arith in rw y (said_verdict true l))

      module _ (z : i < h.count) where
        step : same_elements (λ x y. same_of t (heap_of used w) x y) (items (h.count - i) (suc p + i) (heap_of used w)) (items (h.count - i) (suc q + i) (heap_of used w))
            ≡ and_next (same_of t (heap_of used w) (item_in (heap_of used w) (suc p + i)) (item_in (heap_of used w) (suc q + i)))
            (same_elements (λ x y. same_of t (heap_of used w) x y) (items (h.count - (i + 1)) (suc p + (i + 1)) (heap_of used w)) (items (h.count - (i + 1)) (suc q + (i + 1)) (heap_of used w)))
        step =
            let n = h.count in
            let e0 : n - i - 1 ≡ n - (i + 1) = omega arith in
            let e1 : suc (suc p + i) ≡ suc p + (i + 1) = omega arith in
            let e2 : suc (suc q + i) ≡ suc q + (i + 1) = omega arith in
            rw (e0, e1, e2) at (one (λ x y. same_of t (heap_of used w) x y) (heap_of used w) (n - i) (suc p + i) (suc q + i) (omega arith))

        pub no_units : l ≡ 0 → None ≡ verdict l₀ (same_of t (heap_of used w) a b)
        no_units e = answer None (rw (step, e) (none_left _ _))

        pub room_x : 2 * (p + 1 + i) + 2 ≤ length w
        room_x = let x = whole_p in let y = pre.room in omega arith

        pub room_y : 2 * (q + 1 + i) + 2 ≤ length w
        room_y = let x = whole_q in let y = pre.room in omega arith

        element_p : Element (length t) (heap_of used w) p (suc p + i)
        element_p = (good_of (length t) (heap_of used w) pre.good p left_whole.headed).element i (rw head_p z)

        element_q : Element (length t) (heap_of used w) q (suc q + i)
        element_q = (good_of (length t) (heap_of used w) pre.good q right_whole.headed).element i (rw head_q (omega arith))

        module _ (x y : Value) (xe : x ≡ value_at w (p + 1 + i)) (ye : y ≡ value_at w (q + 1 + i)) where
          x_is : item_in (heap_of used w) (suc p + i) ≡ x
          x_is = item_is w used (suc p + i) (let c = whole_p in omega arith) element_p.plain ∙ (let e : suc p + i ≡ p + 1 + i = omega arith in rw e (sym xe))

          y_is : item_in (heap_of used w) (suc q + i) ≡ y
          y_is = item_is w used (suc q + i) (let c = whole_q in omega arith) element_q.plain ∙ (let e : suc q + i ≡ q + 1 + i = omega arith in rw e (sym ye))

          placed_x : Placed (length t) (heap_of used w) p x
          placed_x = rw x_is at element_p.placed

          placed_y : Placed (length t) (heap_of used w) q y
          placed_y = rw y_is at element_q.placed

          pub falls : rank x < rank a
          falls = let c = rank_below (length t) (heap_of used w) p x placed_x in let d = alike_rank al in omega arith

          pub asked : EqualPre t w used x y
          asked = record {
            room = pre.room;
            good = pre.good;
            left = placed_more (length t) (heap_of used w) p used (let c = whole_p in omega arith) x placed_x;
            right = placed_more (length t) (heap_of used w) q used (let c = whole_q in omega arith) y placed_y;
          }

          module _ (n : ℕ) (ne : n ≡ l - 1) (lp : l ≡ 0 → ⊥) (r' : Option (Bool × ℕ)) (post : r' ≡ verdict n (same_of t (heap_of used w) x y)) where
            inner : (s : Option (Bool × ℕ)) → r' ≡ s → verdict n (same_of t (heap_of used w) (item_in (heap_of used w) (suc p + i)) (item_in (heap_of used w) (suc q + i))) ≡ s
            inner s e = rw (x_is, y_is) (sym post ∙ e)

            units : suc n ≡ l
            units = omega arith

            pub ran_out : r' ≡ None → None ≡ verdict l₀ (same_of t (heap_of used w) a b)
            ran_out e = answer None (rw (step, ← units) (out_then _ _ n (inner None e)))

            pub differs : (c : Bool) (m : ℕ) → r' ≡ Some (c, m) → c ≡ false → Some (false, m) ≡ verdict l₀ (same_of t (heap_of used w) a b)
            differs c m e f = answer (Some (false, m)) (rw (step, ← units) (unlike_then _ _ n m (inner (Some (false, m)) (rw f at e))))

            pub again : (c : Bool) (m : ℕ) → r' ≡ Some (c, m) → c ≡ true → Turn t (heap_of used w) p q h.count l₀ m (i + 1)
            again c m e f = record { inside = omega arith; means = u.means ∙ rw (step, ← units) (alike_then _ _ n m (inner (Some (true, m)) (rw f at e))) }
