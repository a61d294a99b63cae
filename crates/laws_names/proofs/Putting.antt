-- Numbers put in the order of names, in a list and in the struct store.
use mathlib.Core.Path.{◌≡◌, refl, sym, ap, ◌∙◌}
use mathlib.Core.Bool.{true, false}
use mathlib.Core.List.{List, [], ◌∷◌, ◌++◌}
use Prim.Native.Nat.{ℕ, zero, suc, ◌+◌, ◌-◌, ◌*◌, ◌≤◌, ◌<◌}
use native.Mathlib.Omega.{arith}
use native.Mathlib.Numerals.{add-one}
use lib.ListN.{length, get_or, set, length-set}
use lib.Seq.{set-get_or, get_or-set_same, get_or-set_other}
use Rattle.model.specs.Values.{kind_at, payload_at}
use Rattle.model.specs.Programs.{before, name_at, put_in}
use Rattle.model.specs.Stores.{struct_word, order_word, orders_from}
use Rattle.model.specs.Emission.{put_orders}
use Rattle.laws_names.specs.Sorted.{moved_up, struct_put}

-- ---- words of the struct store, one set

module _ (ss : List ℕ) (k x : ℕ) where
  pub order_set : 2 * k + 2 ≤ length ss → order_word (set ss (2 * k + 1) x) k ≡ x
  unfolding order_word payload_at
  order_set h = get_or-set_same ss (2 * k + 1) x 0 (omega arith)

  pub order_other : (j : ℕ) → (j ≡ k → ⊥) → order_word (set ss (2 * k + 1) x) j ≡ order_word ss j
  unfolding order_word payload_at
  order_other j d = get_or-set_other ss (2 * k + 1) (2 * j + 1) x 0 (λ (e : 2 * j + 1 ≡ 2 * k + 1). d (omega arith))

  pub struct_kept : (j : ℕ) → struct_word (set ss (2 * k + 1) x) j ≡ struct_word ss j
  unfolding struct_word kind_at
  struct_kept j = get_or-set_other ss (2 * k + 1) (2 * j) x 0 (λ (e : 2 * j ≡ 2 * k + 1). omega arith)

  pub struct_set : 2 * k + 2 ≤ length ss → struct_word (set ss (2 * k) x) k ≡ x
  unfolding struct_word kind_at
  struct_set h = get_or-set_same ss (2 * k) x 0 (omega arith)

  pub struct_other : (j : ℕ) → (j ≡ k → ⊥) → struct_word (set ss (2 * k) x) j ≡ struct_word ss j
  unfolding struct_word kind_at
  struct_other j d = get_or-set_other ss (2 * k) (2 * j) x 0 (λ (e : 2 * j ≡ 2 * k). d (omega arith))

  pub order_kept : (j : ℕ) → order_word (set ss (2 * k) x) j ≡ order_word ss j
  unfolding order_word payload_at
  order_kept j = get_or-set_other ss (2 * k) (2 * j + 1) x 0 (λ (e : 2 * j + 1 ≡ 2 * k). omega arith)

-- ---- the numbers of the order

pub length_orders : (n i : ℕ) (ss : List ℕ) → length (orders_from n i ss) ≡ n
unfolding orders_from
length_orders zero i ss = refl
length_orders (suc n) i ss = ap suc (length_orders n (suc i) ss)

pub order_at : (n i : ℕ) (ss : List ℕ) (k : ℕ) → k < n → get_or (orders_from n i ss) k 0 ≡ order_word ss (i + k)
unfolding orders_from
order_at zero i ss k h = absurd (let y : ⊥ = omega arith in y)
order_at (suc n) i ss zero h = let z : i + 0 ≡ i = omega arith in rw z
order_at (suc n) i ss (suc k) h = let z : i + suc k ≡ suc i + k = omega arith in rw z (order_at n (suc i) ss k (omega arith))

-- stores whose order words are alike have the same order
pub orders_alike : (n i : ℕ) (ss ds : List ℕ) → ((j : ℕ) → i ≤ j → j < i + n → order_word ds j ≡ order_word ss j) → orders_from n i ds ≡ orders_from n i ss
unfolding orders_from
orders_alike zero i ss ds h = refl
orders_alike (suc n) i ss ds h = rw (h i (omega arith) (omega arith), orders_alike n (suc i) ss ds (λ j a b. h j (omega arith) (omega arith)))

-- a number goes in front of the first whose name is not before its own
pub put_behind : (ns : List (List ℕ)) (x : ℕ) (ss : List ℕ) (p m i : ℕ)
    → ((j : ℕ) → j < p → before (name_at ns (order_word ss (i + j))) (name_at ns x) ≡ true)
    → (0 < m → before (name_at ns (order_word ss (i + p))) (name_at ns x) ≡ false)
    → put_in ns x (orders_from (p + m) i ss) ≡ orders_from p i ss ++ (x ∷ orders_from m (i + p) ss)
unfolding orders_from put_in
put_behind ns x ss zero zero i below there = refl
put_behind ns x ss zero (suc m) i below there = let z : i + 0 ≡ i = omega arith in let y : 0 + suc m ≡ suc m = omega arith in rw (z, y, rw z at (there (omega arith)))
put_behind ns x ss (suc p) m i below there =
    let z : i + 0 ≡ i = omega arith in let y : i + suc p ≡ suc i + p = omega arith in
    let h : before (name_at ns (order_word ss i)) (name_at ns x) ≡ true = rw z at (below 0 (omega arith)) in
    let r = put_behind ns x ss p m (suc i) (λ j l. let q : i + suc j ≡ suc i + j = omega arith in rw q at (below (suc j) (omega arith))) (λ l. rw y at (there l)) in
    let v : suc p + m ≡ suc (p + m) = omega arith in
    rw (v, h, y) (ap (λ (l : List ℕ). order_word ss i ∷ l) r)

-- ---- what putOrders leaves

pub length_put : (i : ℕ) (js ss : List ℕ) → length (put_orders i js ss) ≡ length ss
unfolding put_orders
length_put i [] ss = refl
length_put i (j ∷ js) ss = length_put (suc i) js (set ss (2 * i + 1) j) ∙ length-set ss (2 * i + 1) j

pub put_struct_kept : (i : ℕ) (js ss : List ℕ) (k : ℕ) → struct_word (put_orders i js ss) k ≡ struct_word ss k
unfolding put_orders
put_struct_kept i [] ss k = refl
put_struct_kept i (j ∷ js) ss k = put_struct_kept (suc i) js (set ss (2 * i + 1) j) k ∙ struct_kept ss i j k

pub put_below : (i : ℕ) (js ss : List ℕ) (k : ℕ) → k < i → order_word (put_orders i js ss) k ≡ order_word ss k
unfolding put_orders
put_below i [] ss k h = refl
put_below i (j ∷ js) ss k h = put_below (suc i) js (set ss (2 * i + 1) j) k (omega arith) ∙ order_other ss i j k (λ (e : k ≡ i). omega arith)

pub put_there : (i : ℕ) (js ss : List ℕ) (k : ℕ) → 2 * (i + length js) ≤ length ss → k < length js → order_word (put_orders i js ss) (i + k) ≡ get_or js k 0
unfolding put_orders
put_there i [] ss k f h = absurd (let y : ⊥ = omega arith in y)
put_there i (j ∷ js) ss zero f h =
    let z : i + 0 ≡ i = omega arith in
    rw z (put_below (suc i) js (set ss (2 * i + 1) j) i (omega arith) ∙ order_set ss i j (omega arith))
put_there i (j ∷ js) ss (suc k) f h =
    let z : i + suc k ≡ suc i + k = omega arith in let l = length-set ss (2 * i + 1) j in
    rw z (put_there (suc i) js (set ss (2 * i + 1) j) k (omega arith) (omega arith))

same_order : (ss : List ℕ) (i : ℕ) → set ss (2 * i + 1) (order_word ss i) ≡ ss
unfolding order_word payload_at
same_order ss i = set-get_or ss (2 * i + 1) 0

-- to put what stands there changes nothing
pub put_same : (p i : ℕ) (l ss : List ℕ) → put_orders i (orders_from p i ss ++ l) ss ≡ put_orders (i + p) l ss
unfolding put_orders orders_from
put_same zero i l ss = let z : i + 0 ≡ i = omega arith in rw z
put_same (suc p) i l ss =
    let z : i + suc p ≡ suc i + p = omega arith in
    ap (λ (d : List ℕ). put_orders (suc i) (orders_from p (suc i) ss ++ l) d) (same_order ss i) ∙ put_same p (suc i) l ss ∙ rw z

-- ---- the loop: a number is put, the one that stood there is carried on

pub record Moving (n at x : ℕ) (ss : List ℕ) (k carry : ℕ) (ss' : List ℕ) : Type 0 where
  pub within : k ≤ n
  pub same : length ss' ≡ length ss
  pub means : moved_up n at x ss ≡ moved_up n k carry ss'

module _ (n at x : ℕ) (ss : List ℕ) (k carry : ℕ) (ss' : List ℕ) (h : Moving n at x ss k carry ss') where
  pub moving_next : k < n → (old : ℕ) → old ≡ get_or ss' (2 * k + 1) 0 → Moving n at x ss (k + 1) old (set ss' (2 * k + 1) carry)
  unfolding moved_up put_orders orders_from order_word payload_at
  moving_next l old e = record { within = omega arith; same = length-set ss' (2 * k + 1) carry ∙ h.same; means = h.means ∙ step }
    where
      rest : orders_from (n - suc k) (suc k) ss' ≡ orders_from (n - suc k) (suc k) (set ss' (2 * k + 1) carry)
      rest = sym (orders_alike (n - suc k) (suc k) ss' (set ss' (2 * k + 1) carry) (λ j a b. order_other ss' k carry j (λ (q : j ≡ k). omega arith)))

      step : moved_up n k carry ss' ≡ moved_up n (k + 1) old (set ss' (2 * k + 1) carry)
      step = let z : n - k ≡ suc (n - suc k) = omega arith in rw (add-one k, z, rest, e)

  pub moving_done : n ≤ k → set ss' (2 * n + 1) carry ≡ moved_up n at x ss
  unfolding moved_up put_orders orders_from
  moving_done l = let w = h.within in let z : k ≡ n = omega arith in let y : n - n ≡ 0 = omega arith in sym (h.means ∙ rw (z, y))

-- ---- a struct put in at the place of its name

module _ (ns : List (List ℕ)) (n at w : ℕ) (ss : List ℕ) (most : at ≤ n)
    (below : (j : ℕ) → j < at → before (name_at ns (order_word ss j)) (name_at ns n) ≡ true)
    (there : at < n → before (name_at ns (order_word ss at)) (name_at ns n) ≡ false) where
  pub put_is : struct_put n at w ss ≡ put_orders 0 (put_in ns n (orders_from n 0 ss)) (set ss (2 * n) w)
  unfolding struct_put moved_up
  put_is =
      let ds = set ss (2 * n) w in
      let z : at + (n - at) ≡ n = omega arith in
      let y : 0 + at ≡ at = omega arith in
      let alike : orders_from n 0 ss ≡ orders_from (at + (n - at)) 0 ds = rw z (sym (orders_alike n 0 ss ds (λ j a b. order_kept ss n w j))) in
      let q = put_behind ns n ds at (n - at) 0 (λ j l. let x : 0 + j ≡ j = omega arith in rw (x, order_kept ss n w j) (below j l)) (λ l. rw (y, order_kept ss n w at) (there (omega arith))) in
      sym (rw (alike, q, y) (put_same at 0 (n ∷ orders_from (n - at) at ds) ds ∙ rw y))

-- what stands there then
module _ (n at w : ℕ) (ss : List ℕ) (most : at ≤ n) (fits : 2 * n + 2 ≤ length ss) where
  pub length_struct_put : length (struct_put n at w ss) ≡ length ss
  unfolding struct_put moved_up
  length_struct_put = length_put at _ (set ss (2 * n) w) ∙ length-set ss (2 * n) w

  pub new_word : struct_word (struct_put n at w ss) n ≡ w
  unfolding struct_put moved_up
  new_word = put_struct_kept at _ (set ss (2 * n) w) n ∙ struct_set ss n w fits

  pub old_word : (j : ℕ) → (j ≡ n → ⊥) → struct_word (struct_put n at w ss) j ≡ struct_word ss j
  unfolding struct_put moved_up
  old_word j d = put_struct_kept at _ (set ss (2 * n) w) j ∙ struct_other ss n w j d

  pub order_below : (k : ℕ) → k < at → order_word (struct_put n at w ss) k ≡ order_word ss k
  unfolding struct_put moved_up
  order_below k h = put_below at _ (set ss (2 * n) w) k h ∙ order_kept ss n w k

  behind : (k : ℕ) → k < suc (n - at) → order_word (struct_put n at w ss) (at + k) ≡ get_or (n ∷ orders_from (n - at) at (set ss (2 * n) w)) k 0
  unfolding struct_put moved_up
  behind k h =
      let a = length_orders (n - at) at (set ss (2 * n) w) in let b = length-set ss (2 * n) w in
      put_there at (n ∷ orders_from (n - at) at (set ss (2 * n) w)) (set ss (2 * n) w) k (omega arith) (omega arith)

  pub order_new : order_word (struct_put n at w ss) at ≡ n
  order_new = let z : at + 0 ≡ at = omega arith in rw z at (behind 0 (omega arith))

  pub order_moved : (k : ℕ) → at ≤ k → k < n → order_word (struct_put n at w ss) (suc k) ≡ order_word ss k
  order_moved k h l =
      let z : at + suc (k - at) ≡ suc k = omega arith in let y : at + (k - at) ≡ k = omega arith in
      rw z at (behind (suc (k - at)) (omega arith)) ∙ order_at (n - at) at (set ss (2 * n) w) (k - at) (omega arith) ∙ rw y (order_kept ss n w k)

-- a store in which a struct was put is as long as it was
pub put_keeps_length : (n at w : ℕ) (ss ds : List ℕ) → ds ≡ struct_put n at w ss → length ds ≡ length ss
unfolding struct_put moved_up
put_keeps_length n at w ss ds e = rw e (length_put at _ (set ss (2 * n) w) ∙ length-set ss (2 * n) w)
