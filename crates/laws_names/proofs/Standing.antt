-- Names that stand in order: they are all different, a search by halves finds the number that a search from the first finds, and one more is put in.
use Rattle.std.specs.Prelude.{if◌then◌else◌}
use mathlib.Core.Path.{◌≡◌, refl, sym, ap, ◌∙◌}
use mathlib.Core.Bool.{Bool, true, false}
use mathlib.Core.List.{List, [], ◌∷◌, ◌++◌}
use mathlib.Core.Option.{none, some}
use Prim.Native.Nat.{ℕ, zero, suc, ◌+◌, ◌-◌, ◌*◌, ◌≤◌, ◌<◌}
use native.Mathlib.Omega.{arith}
use native.Mathlib.Numerals.{lt_of_le_of_ne}
use lib.Dec.{eqb, ltb}
use lib.ListN.{length, get_or, set, get_or-append}
use lib.Seq.{get_or_at}
use borrow.Author.Tests.{ltb-true, ltb-false, eqb-true, eqb-false}
use Rattle.model.specs.Equality.{same_bytes}
use Rattle.model.specs.Programs.{before, name_at, put_in, first_from, among}
use Rattle.model.specs.Stores.{part, struct_word, order_word, structs_from, orders_from}
use Rattle.model.specs.Orders.{name_in_order}
use Rattle.model.specs.Emission.{put_orders}
use Rattle.laws_names.specs.Sorted.{Ascending, Edge, Spot, InOrder, all_different, struct_put}
use Rattle.laws_names.proofs.Before.{apart, either_way, same_means, same_itself, one_before}
use Rattle.laws_names.proofs.Halves.{differ, found_not}
use Rattle.laws_names.proofs.Pigeons.{Hit, Pigeons, all_hit}
use Rattle.laws_names.proofs.Putting.{put_is, new_word, old_word, order_below, order_new, order_moved}

-- ---- names of a struct store, one by one

pub length_structs : (n i : ℕ) (ss t : List ℕ) → length (structs_from n i ss t) ≡ n
unfolding structs_from
length_structs zero i ss t = refl
length_structs (suc n) i ss t = ap suc (length_structs n (suc i) ss t)

pub struct_at : (n i : ℕ) (ss t : List ℕ) (k : ℕ) → k < n → get_or (structs_from n i ss t) k [] ≡ part t (struct_word ss (i + k))
unfolding structs_from
struct_at zero i ss t k h = absurd (let y : ⊥ = omega arith in y)
struct_at (suc n) i ss t zero h = let z : i + 0 ≡ i = omega arith in rw z
struct_at (suc n) i ss t (suc k) h = let z : i + suc k ≡ suc i + k = omega arith in rw z (struct_at n (suc i) ss t k (omega arith))

-- ---- a search from the first, where at most one of the names is meant

pub first_none : (n i : ℕ) (name ss t : List ℕ) → ((k : ℕ) → k < n → same_bytes name (part t (struct_word ss (i + k))) ≡ false) → first_from i name (structs_from n i ss t) ≡ none
unfolding first_from structs_from
first_none zero i name ss t h = refl
first_none (suc n) i name ss t h =
    let z : i + 0 ≡ i = omega arith in
    rw (rw z at (h 0 (omega arith))) (first_none n (suc i) name ss t (λ k l. let y : i + suc k ≡ suc i + k = omega arith in rw y at (h (suc k) (omega arith))))

pub first_one : (n i : ℕ) (name ss t : List ℕ) (j : ℕ) → j < n → same_bytes name (part t (struct_word ss (i + j))) ≡ true
    → ((k : ℕ) → k < j → same_bytes name (part t (struct_word ss (i + k))) ≡ false) → first_from i name (structs_from n i ss t) ≡ some (i + j)
unfolding first_from structs_from
first_one zero i name ss t j h e f = absurd (let y : ⊥ = omega arith in y)
first_one (suc n) i name ss t zero h e f = let z : i + 0 ≡ i = omega arith in rw (z, rw z at e)
first_one (suc n) i name ss t (suc j) h e f =
    let z : i + 0 ≡ i = omega arith in let y : i + suc j ≡ suc i + j = omega arith in
    rw (rw z at (f 0 (omega arith)), y)
    (first_one n (suc i) name ss t j (omega arith) (rw y at e) (λ k l. let x : i + suc k ≡ suc i + k = omega arith in rw x at (f (suc k) (omega arith))))

-- ---- all different, pair by pair

among_no : (n i : ℕ) (name ss t : List ℕ) → ((k : ℕ) → k < n → same_bytes name (part t (struct_word ss (i + k))) ≡ false) → among name (structs_from n i ss t) ≡ false
unfolding among structs_from
among_no zero i name ss t h = refl
among_no (suc n) i name ss t h =
    let z : i + 0 ≡ i = omega arith in
    rw (rw z at (h 0 (omega arith))) (among_no n (suc i) name ss t (λ k l. let y : i + suc k ≡ suc i + k = omega arith in rw y at (h (suc k) (omega arith))))

-- a name that is none of them differs from each
pub none_among : (n i : ℕ) (name ss t : List ℕ) → among name (structs_from n i ss t) ≡ false → (k : ℕ) → k < n → same_bytes name (part t (struct_word ss (i + k))) ≡ false
unfolding among structs_from
none_among zero i name ss t e k h = absurd (let y : ⊥ = omega arith in y)
none_among (suc n) i name ss t e zero h = let z : i + 0 ≡ i = omega arith in rw z (first_not_lem (same_bytes name (part t (struct_word ss i))) (among name (structs_from n (suc i) ss t)) e)
  where
    first_not_lem : (a b : Bool) → (if a then true else b) ≡ false → a ≡ false
    first_not_lem true b q = q
    first_not_lem false b q = refl
none_among (suc n) i name ss t e (suc k) h =
    let z : i + suc k ≡ suc i + k = omega arith in
    rw z (none_among n (suc i) name ss t (then_not (same_bytes name (part t (struct_word ss i))) (among name (structs_from n (suc i) ss t)) e) k (omega arith))
  where
    then_not : (a b : Bool) → (if a then true else b) ≡ false → b ≡ false
    then_not true b q = apart true refl q
    then_not false b q = q

pub pairs_differ : (n i : ℕ) (ss t : List ℕ) → ((j k : ℕ) → j < k → k < i + n → same_bytes (part t (struct_word ss j)) (part t (struct_word ss k)) ≡ false)
    → all_different (structs_from n i ss t) ≡ true
unfolding all_different structs_from
pairs_differ zero i ss t h = refl
pairs_differ (suc n) i ss t h =
    rw (among_no n (suc i) (part t (struct_word ss i)) ss t (λ k l. h i (suc i + k) (omega arith) (omega arith)))
    (pairs_differ n (suc i) ss t (λ j k l m. h j k l (omega arith)))

-- ---- names in order

module _ (n : ℕ) (ss t : List ℕ) (o : InOrder n ss t) where
  -- the numbers of the order are all different, and so all there are
  numbers : Pigeons n (order_word ss)
  unfolding name_in_order
  numbers = record {
    below = o.below;
    apart = λ k l hk hl e.
        either_way (eqb k l) (λ x. eqb-true k l x)
        (λ d.
        let same : same_bytes (name_in_order ss t k) (name_in_order ss t k) ≡ false = rw (← e) at (differ n (name_in_order ss t) o.ascending k l hk hl (eqb-false k l d)) in
        apart _ (same_itself (name_in_order ss t k)) same);
  }

  pub stands_at : (i : ℕ) → i < n → Hit n (order_word ss) i
  stands_at i h = all_hit n (order_word ss) numbers i h

  in_its_place : (i : ℕ) (h : Hit n (order_word ss) i) → name_in_order ss t h.at ≡ part t (struct_word ss i)
  unfolding name_in_order
  in_its_place i h = rw h.is

  pub names_differ : (i j : ℕ) → i < n → j < n → (i ≡ j → ⊥) → same_bytes (part t (struct_word ss i)) (part t (struct_word ss j)) ≡ false
  names_differ i j hi hj d =
      let p = stands_at i hi in let q = stands_at j hj in
      rw (← (in_its_place i p), ← (in_its_place j q))
      (differ n (name_in_order ss t) o.ascending p.at q.at p.within q.within (λ (e : p.at ≡ q.at). d (sym p.is ∙ ap (order_word ss) e ∙ q.is)))

  -- names that stand in order are all different
  pub all_different_lem : all_different (structs_from n 0 ss t) ≡ true
  all_different_lem = pairs_differ n 0 ss t (λ j k l m. names_differ j k (omega arith) (omega arith) (λ (e : j ≡ k). omega arith))

  -- what a search by halves finds is what a search from the first finds
  module _ (name : List ℕ) (at : ℕ) (e : Edge n (name_in_order ss t) name at) where
    pub halves_find : at < n → same_bytes name (name_in_order ss t at) ≡ true → first_from 0 name (structs_from n 0 ss t) ≡ some (order_word ss at)
    unfolding name_in_order
    halves_find h s =
        let j = order_word ss at in let z : 0 + j ≡ j = omega arith in
        let b : j < n = o.below at h in
        let y : part t (struct_word ss j) ≡ name = sym (same_means name _ s) in
        rw z at (first_one n 0 name ss t j b (rw z s)
        (λ k l. let x : 0 + k ≡ k = omega arith in rw (x, ← y) (names_differ j k b (omega arith) (λ (q : j ≡ k). omega arith))))

    pub none_of_them : (at < n → same_bytes name (name_in_order ss t at) ≡ false) → (i : ℕ) → i < n → same_bytes name (part t (struct_word ss i)) ≡ false
    none_of_them f i h =
        let p = stands_at i h in
        rw (← (in_its_place i p)) (found_not n (name_in_order ss t) o.ascending name at e f p.at p.within)

    pub halves_miss : (at < n → same_bytes name (name_in_order ss t at) ≡ false) → first_from 0 name (structs_from n 0 ss t) ≡ none
    halves_miss f = first_none n 0 name ss t (λ k h. let z : 0 + k ≡ k = omega arith in rw z (none_of_them f k h))

-- ---- one more put in

-- numbers with one more among them: those below stay, those behind move up
pub insert_below : (n at : ℕ) (g h : ℕ → ℕ) → at ≤ n → ((k : ℕ) → k < n → g k < n) → ((k : ℕ) → k < at → h k ≡ g k) → h at ≡ n
    → ((k : ℕ) → at ≤ k → k < n → h (suc k) ≡ g k) → (k : ℕ) → k < suc n → h k < suc n
insert_below n at g h most b low here moved k l = either_way (ltb k at)
    (λ x. let m : k < at = ltb-true k at x in let y = b k (omega arith) in rw (low k m) (omega arith))
    (λ x.
    let m : at ≤ k = ltb-false k at x in
    either_way (eqb k at)
    (λ y. let z : k ≡ at = eqb-true k at y in rw (z, here) (omega arith))
    (λ y.
    let q : at < k = lt_of_le_of_ne m (λ (r : at ≡ k). eqb-false k at y (sym r)) in
    let z : suc (k - 1) ≡ k = omega arith in
    let v : h k ≡ g (k - 1) = rw z at (moved (k - 1) (omega arith) (omega arith)) in
    let w = b (k - 1) (omega arith) in
    rw v (omega arith)))

-- names in order with one more among them, at its place, that is none of them
module _ (n at : ℕ) (f g : ℕ → List ℕ) (name : List ℕ) (a : Ascending n f) (spot : Spot n f name at) (new : (i : ℕ) → i < n → same_bytes name (f i) ≡ false)
    (low : (k : ℕ) → k < at → g k ≡ f k) (here : g at ≡ name) (moved : (k : ℕ) → at ≤ k → k < n → g (suc k) ≡ f k) where
  new_back : (j : ℕ) → j < n → same_bytes (f j) name ≡ false
  new_back j l = either_way (same_bytes (f j) name)
      (λ s. let z : f j ≡ name = same_means (f j) name s in apart _ (same_itself name) (rw z at (new j l)))
      (λ d. d)

  -- in front of the new one, at it, and behind it
  in_front_lem : (i : ℕ) → suc i < at → before (g i) (g (suc i)) ≡ true
  in_front_lem i l = let m = spot.most in rw (low i (omega arith), low (suc i) l) (a.next i (omega arith))

  to_it : (i : ℕ) → suc i ≡ at → before (g i) (g (suc i)) ≡ true
  to_it i e = rw (low i (omega arith), e, here) (spot.below i (omega arith))

  from_it : at < n → before (g at) (g (suc at)) ≡ true
  from_it l =
      let k : at ≤ at = omega arith in
      rw (moved at k l, here) (one_before (f at) name (spot.above at k l) (new_back at l))

  behind_it : (i : ℕ) → at < i → i < n → before (g i) (g (suc i)) ≡ true
  behind_it i l h =
      let z : suc (i - 1) ≡ i = omega arith in
      let k : at ≤ i = omega arith in
      let p : g i ≡ f (i - 1) = rw z at (moved (i - 1) (omega arith) (omega arith)) in
      rw (p, moved i k h) (rw z at (a.next (i - 1) (omega arith)))

  pub insert_ascends : Ascending (suc n) g
  insert_ascends = record {
    next = λ i h.
        either_way (ltb (suc i) at) (λ x. in_front_lem i (ltb-true (suc i) at x))
        (λ x.
        either_way (eqb (suc i) at) (λ y. to_it i (eqb-true (suc i) at y))
        (λ y.
        let l : at < suc i = lt_of_le_of_ne (ltb-false (suc i) at x) (λ (r : at ≡ suc i). eqb-false (suc i) at y (sym r)) in
        either_way (eqb at i)
        (λ v. let z : at ≡ i = eqb-true at i v in rw z at (from_it (omega arith)))
        (λ v. behind_it i (lt_of_le_of_ne (omega arith) (eqb-false at i v)) (omega arith))));
  }

-- some place is a name's
pub record Somewhere (n : ℕ) (f : ℕ → List ℕ) (t : List ℕ) : Type 0 where
  pub at : ℕ
  pub edge : Edge n f t at

pub somewhere : (n : ℕ) (f : ℕ → List ℕ) (t : List ℕ) → Somewhere n f t
somewhere zero f t = record {
  at = 0;
  edge = record { most = omega arith; low = λ i e. absurd (let y : ⊥ = omega arith in y); high = λ h. absurd (let y : ⊥ = omega arith in y) };
}
somewhere (suc n) f t =
    let w = somewhere n f t in let e = w.edge in let m = e.most in
    either_way (ltb w.at n)
    (λ x. record { at = w.at; edge = record { most = omega arith; low = e.low; high = λ _. e.high (ltb-true w.at n x) } })
    (λ x.
    let y : n ≤ w.at = ltb-false w.at n x in let z : w.at ≡ n = omega arith in
    either_way (before (f n) t)
    (λ b. record { at = suc n; edge = record { most = omega arith; low = λ i q. let v : i ≡ n = omega arith in rw v b; high = λ h. absurd (let y : ⊥ = omega arith in y) } })
    (λ b. record { at = n; edge = record { most = omega arith; low = λ i q. e.low i (q ∙ sym z); high = λ _. b } }))

module _ (n : ℕ) (ss t : List ℕ) (o : InOrder n ss t) (name : List ℕ) (at : ℕ) (spot : Spot n (name_in_order ss t) name at) where
  named : (j : ℕ) → j < n → name_at (structs_from n 0 ss t ++ (name ∷ [])) (order_word ss j) ≡ name_in_order ss t j
  unfolding name_at name_in_order
  named j h =
      let b : order_word ss j < n = o.below j h in let l = length_structs n 0 ss t in
      let z : 0 + order_word ss j ≡ order_word ss j = omega arith in
      get_or-append (structs_from n 0 ss t) (name ∷ []) [] (order_word ss j) (omega arith) ∙ struct_at n 0 ss t (order_word ss j) b ∙ rw z

  new_name_lem : name_at (structs_from n 0 ss t ++ (name ∷ [])) n ≡ name
  unfolding name_at
  new_name_lem = get_or_at (structs_from n 0 ss t) name [] [] n (length_structs n 0 ss t)

  -- the store that the definition writes
  pub put_named : (w : ℕ) → struct_put n at w ss ≡ put_orders 0 (put_in (structs_from n 0 ss t ++ (name ∷ [])) n (orders_from n 0 ss)) (set ss (2 * n) w)
  put_named w =
      let m = spot.most in
      put_is (structs_from n 0 ss t ++ (name ∷ [])) n at w ss m
      (λ j h. rw (named j (omega arith), new_name_lem) (spot.below j h))
      (λ h. rw (named at h, new_name_lem) (spot.above at (omega arith) h))

  -- the name is none of them: it stands in order among them
  module _ (new : (i : ℕ) → i < n → same_bytes name (name_in_order ss t i) ≡ false) (w : ℕ) (u : List ℕ) (fits : 2 * n + 2 ≤ length ss)
      (kept : (j : ℕ) → j < n → part u (struct_word ss j) ≡ part t (struct_word ss j)) (here : part u w ≡ name) where
    most : at ≤ n
    most = spot.most

    ds : List ℕ
    ds = struct_put n at w ss

    old_name : (k i : ℕ) → i < n → order_word ds k ≡ order_word ss i → name_in_order ds u k ≡ name_in_order ss t i
    unfolding name_in_order ds
    old_name k i h e =
        let b : order_word ss i < n = o.below i h in
        rw (e, old_word n at w ss most fits (order_word ss i) (λ (q : order_word ss i ≡ n). omega arith)) (kept (order_word ss i) b)

    is_below : (k : ℕ) → k < at → name_in_order ds u k ≡ name_in_order ss t k
    unfolding ds
    is_below k h = let m = most in old_name k k (omega arith) (order_below n at w ss most fits k h)

    is_moved : (k : ℕ) → at ≤ k → k < n → name_in_order ds u (suc k) ≡ name_in_order ss t k
    unfolding ds
    is_moved k h l = old_name (suc k) k l (order_moved n at w ss most fits k h l)

    is_new : name_in_order ds u at ≡ name
    unfolding name_in_order ds
    is_new = rw (order_new n at w ss most fits, new_word n at w ss most fits) here

    pub stays_in_order : InOrder (suc n) (struct_put n at w ss) u
    unfolding ds
    stays_in_order =
        let f = name_in_order ss t in
        record {
          below = insert_below n at (order_word ss) (order_word (struct_put n at w ss)) most o.below
              (order_below n at w ss most fits) (order_new n at w ss most fits) (order_moved n at w ss most fits);
          ascending = insert_ascends n at f (name_in_order (struct_put n at w ss) u) name o.ascending spot new is_below is_new is_moved;
        }
