-- A search by halves among names in order.
use mathlib.Core.Path.{◌≡◌, sym}
use mathlib.Core.Bool.{Bool, true, false, ◌&&◌}
use mathlib.Core.List.{List}
use mathlib.Mathlib.Data.Bool.Basic.{and_elim_left as and_left, and_elim_right as and_right}
use Prim.Native.Nat.{ℕ, zero, suc, ◌+◌, ◌-◌, ◌/◌, ◌≤◌, ◌<◌}
use native.Mathlib.Omega.{arith}
use native.Mathlib.Numerals.{lt_of_le_of_ne}
use lib.Dec.{eqb, ltb}
use borrow.Author.Tests.{ltb-true, ltb-false, lt-ltb, eqb-true, eqb-false}
use Rattle.model.specs.Equality.{same_bytes}
use Rattle.model.specs.Programs.{before}
use Rattle.laws_names.specs.Sorted.{Ascending, Edge, Spot}
use Rattle.laws_names.proofs.Before.{apart, either_way, same_means, before_both, before_differs, behind_differs}

-- ---- names in order

module _ (n : ℕ) (f : ℕ → List ℕ) (a : Ascending n f) where
  pub ascends : (i j : ℕ) → i < j → j < n → before (f i) (f j) ≡ true
  ascends i zero h k = absurd (let y : ⊥ = omega arith in y)
  ascends i (suc j) h k = either_way (eqb i j)
      (λ t. let e : i ≡ j = eqb-true i j t in rw e (a.next j k))
      (λ d.
      let l : i < j = lt_of_le_of_ne (omega arith) (eqb-false i j d) in
      before_both (f i) (f j) (f (suc j)) (ascends i j l (omega arith)) (a.next j k))

  -- two of them at different places differ
  pub differ : (i j : ℕ) → i < n → j < n → (i ≡ j → ⊥) → same_bytes (f i) (f j) ≡ false
  differ i j h k d = either_way (ltb i j)
      (λ t. before_differs (f i) (f j) (ascends i j (ltb-true i j t) k))
      (λ q.
      either_way (ltb j i)
      (λ t. behind_differs (f i) (f j) (ascends j i (ltb-true j i t) h))
      (λ r. let a : j ≤ i = ltb-false i j q in let b : i ≤ j = ltb-false j i r in absurd (d (omega arith))))

  -- where a search ended is the place of the name
  module _ (t : List ℕ) (at : ℕ) (e : Edge n f t at) where
    pub edge_spot : Spot n f t at
    edge_spot = record { most = e.most; below = down; above = up }
      where
        down : (i : ℕ) → i < at → before (f i) t ≡ true
        down i h = either_way (eqb (suc i) at)
            (λ x. e.low i (eqb-true (suc i) at x))
            (λ d.
            let k : suc i < at = lt_of_le_of_ne (omega arith) (eqb-false (suc i) at d) in
            let z : suc (at - 1) ≡ at = omega arith in
            let m = e.most in
            before_both (f i) (f (at - 1)) t (ascends i (at - 1) (omega arith) (omega arith)) (e.low (at - 1) z))

        up : (i : ℕ) → at ≤ i → i < n → before (f i) t ≡ false
        up i h k = either_way (eqb at i)
            (λ x. let z : at ≡ i = eqb-true at i x in rw (← z) (e.high (omega arith)))
            (λ d.
            let l : at < i = lt_of_le_of_ne h (eqb-false at i d) in
            either_way (before (f i) t) (λ x. apart _ (before_both (f at) (f i) t (ascends at i l k) x) (e.high (omega arith))) (λ x. x))

    -- the name stands there, or it is none of them
    pub found_is : at < n → same_bytes t (f at) ≡ true → f at ≡ t
    found_is h s = sym (same_means t (f at) s)

    pub found_not : (at < n → same_bytes t (f at) ≡ false) → (i : ℕ) → i < n → same_bytes t (f i) ≡ false
    found_not other i h = either_way (ltb i at)
        (λ x. behind_differs t (f i) (edge_spot.below i (ltb-true i at x)))
        (λ x.
        let l : at ≤ i = ltb-false i at x in
        either_way (eqb at i)
        (λ y. let z : at ≡ i = eqb-true at i y in rw (← z) (other (omega arith)))
        (λ d.
        let k : at < i = lt_of_le_of_ne l (eqb-false at i d) in
        either_way (same_bytes t (f i))
        (λ y. let z : t ≡ f i = same_means t (f i) y in apart _ (rw (← z) at (ascends at i k h)) (e.high (omega arith)))
        (λ y. y)))

-- ---- the loop: the name below `low` is before t, and the name at `high` is not

pub record Halving (n : ℕ) (f : ℕ → List ℕ) (t : List ℕ) (low high : ℕ) : Type 0 where
  pub order : low ≤ high
  pub most : high ≤ n
  pub below : (i : ℕ) → suc i ≡ low → before (f i) t ≡ true
  pub there : high < n → before (f high) t ≡ false

module _ (n : ℕ) (f : ℕ → List ℕ) (t : List ℕ) (low high : ℕ) (h : Halving n f t low high) where
  pub halving_met : high ≤ low → Edge n f t low
  halving_met l =
      let o = h.order in let z : high ≡ low = omega arith in
      record { most = let m = h.most in omega arith; low = h.below; high = λ k. rw z at (h.there (let m = h.most in omega arith)) }

  module _ (l : low < high) (mid : ℕ) (em : mid ≡ low + (high - low) / 2) where
    pub mid_inside : (low ≤ mid) × (mid < high)
    mid_inside = (omega arith, omega arith)

    -- the upper half where the name in the middle is before t, else the lower
    pub halving_up : before (f mid) t ≡ true → Halving n f t (mid + 1) high
    halving_up e = record {
      order = omega arith;
      most = h.most;
      below = λ i q. let z : i ≡ mid = omega arith in rw z e;
      there = h.there;
    }

    pub halving_down : before (f mid) t ≡ false → Halving n f t low mid
    halving_down e = record { order = omega arith; most = let m = h.most in omega arith; below = h.below; there = λ _. e }

-- what the test of a place says
pub stands_yes : (at n : ℕ) (s : Bool) → (ltb at n && s) ≡ true → (at < n) × (s ≡ true)
stands_yes at n s e = (ltb-true at n (and_left (ltb at n) s e), and_right (ltb at n) s e)

pub stands_no : (at n : ℕ) (s : Bool) → (ltb at n && s) ≡ false → at < n → s ≡ false
stands_no at n s e h = rw (lt-ltb at n h) at e
