-- The order of names: no name is before itself, what is before one that is before a third is before the third, and of two different names one is before the other.
use mathlib.Core.Path.{◌≡◌, refl, sym, ◌∙◌}
use mathlib.Core.Bool.{Bool, true, false, true≢false}
use mathlib.Core.List.{List, [], ◌∷◌}
use mathlib.Mathlib.Data.Bool.Basic.{and_elim_left as and_left, and_elim_right as and_right}
use Prim.Native.Nat.{ℕ, ◌+◌, ◌≤◌, ◌<◌}
use native.Mathlib.Omega.{arith}
use native.Mathlib.Numerals.{lt_of_le_of_ne, add-one}
use lib.Dec.{eqb, ltb}
use lib.ListN.{length, get_or, drop, drop_of_length-le}
use lib.Seq.{drop-cons}
use borrow.Author.Tests.{ltb-true, ltb-false, lt-ltb, le-ltb, eqb-true, eqb-false, eq-eqb, ne_eqb}
use Rattle.model.specs.Equality.{same_bytes}
use Rattle.model.specs.Programs.{before}

pub apart : {A : Type 0} (b : Bool) → b ≡ true → b ≡ false → A
apart b e f = absurd (true≢false (sym e ∙ f))

pub either_way : {A : Type 0} (b : Bool) → (b ≡ true → A) → (b ≡ false → A) → A
either_way true h k = h refl
either_way false h k = k refl

-- ---- the same bytes are the same name

pub same_means : (a b : List ℕ) → same_bytes a b ≡ true → a ≡ b
unfolding same_bytes
same_means [] [] e = refl
same_means [] (y ∷ b) e = apart false e refl
same_means (x ∷ a) [] e = apart false e refl
same_means (x ∷ a) (y ∷ b) e =
    let h : x ≡ y = eqb-true x y (and_left (eqb x y) (same_bytes a b) e) in
    let t : a ≡ b = same_means a b (and_right (eqb x y) (same_bytes a b) e) in
    rw (h, t)

pub same_itself : (a : List ℕ) → same_bytes a a ≡ true
unfolding same_bytes
same_itself [] = refl
same_itself (x ∷ a) = rw (eq-eqb x x refl, same_itself a)

-- ---- by the first bytes

module _ (x y : ℕ) (a b : List ℕ) where
  pub by_less : x < y → before (x ∷ a) (y ∷ b) ≡ true
  unfolding before
  by_less h = rw (lt-ltb x y h)

  pub by_more : y < x → before (x ∷ a) (y ∷ b) ≡ false
  unfolding before
  by_more h = let l : y ≤ x = omega arith in rw (le-ltb x y l, ne_eqb x y (λ (e : x ≡ y). omega arith))

  pub by_rest : x ≡ y → before (x ∷ a) (y ∷ b) ≡ before a b
  unfolding before
  by_rest e = let l : y ≤ x = omega arith in rw (le-ltb x y l, eq-eqb x y e)

  -- which of the three it is
  pub by_first : {A : Type 0} → (x < y → A) → (x ≡ y → A) → (y < x → A) → A
  by_first f g h = either_way (ltb x y) (λ t. f (ltb-true x y t))
      (λ n. either_way (eqb x y) (λ t. g (eqb-true x y t))
      (λ d. h (lt_of_le_of_ne (ltb-false x y n) (λ (e : y ≡ x). eqb-false x y d (sym e)))))

-- ---- an order

pub never_itself : (a : List ℕ) → before a a ≡ false
unfolding before
never_itself [] = refl
never_itself (x ∷ a) = by_rest x x a a refl ∙ never_itself a

pub before_both : (a b c : List ℕ) → before a b ≡ true → before b c ≡ true → before a c ≡ true
unfolding before
before_both [] [] c e f = apart false e refl
before_both [] (y ∷ b) [] e f = apart false f refl
before_both [] (y ∷ b) (z ∷ c) e f = refl
before_both (x ∷ a) [] c e f = apart false e refl
before_both (x ∷ a) (y ∷ b) [] e f = apart false f refl
before_both (x ∷ a) (y ∷ b) (z ∷ c) e f =
    by_first x y a b
    (λ xy.
    by_first y z b c
    (λ yz. by_less x z a c (omega arith))
    (λ yz. by_less x z a c (omega arith))
    (λ zy. apart _ f (by_more y z b c zy)))
    (λ xy.
    by_first y z b c
    (λ yz. by_less x z a c (omega arith))
    (λ yz. by_rest x z a c (xy ∙ yz) ∙ before_both a b c (sym (by_rest x y a b xy) ∙ e) (sym (by_rest y z b c yz) ∙ f))
    (λ zy. apart _ f (by_more y z b c zy)))
    (λ yx. apart _ e (by_more x y a b yx))

-- a name before another is not the same
pub before_differs : (a b : List ℕ) → before a b ≡ true → same_bytes a b ≡ false
before_differs a b e = either_way (same_bytes a b) (λ s. let z : a ≡ b = same_means a b s in apart _ e (rw z (never_itself b))) (λ f. f)

-- nor is one that comes behind
pub behind_differs : (a b : List ℕ) → before b a ≡ true → same_bytes a b ≡ false
behind_differs a b e = either_way (same_bytes a b) (λ s. let z : a ≡ b = same_means a b s in apart _ e (rw z (never_itself b))) (λ f. f)

-- whichever way they are compared
pub flip_differs : (a b : List ℕ) → same_bytes a b ≡ false → same_bytes b a ≡ false
flip_differs a b e = either_way (same_bytes b a) (λ s. let z : b ≡ a = same_means b a s in apart _ (same_itself a) (rw z at e)) (λ f. f)

-- of two different names one is before the other
pub one_before : (a b : List ℕ) → before a b ≡ false → same_bytes a b ≡ false → before b a ≡ true
unfolding before same_bytes
one_before [] [] e f = apart true refl f
one_before [] (y ∷ b) e f = apart true refl e
one_before (x ∷ a) [] e f = refl
one_before (x ∷ a) (y ∷ b) e f =
    by_first x y a b
    (λ xy. apart _ (by_less x y a b xy) e)
    (λ xy. by_rest y x b a (sym xy) ∙ one_before a b (sym (by_rest x y a b xy) ∙ e) (rw (eq-eqb x y xy) at f))
    (λ yx. by_less y x b a yx)

-- ---- a loop that compares byte after byte: the first i are the same, and the rest decides

pub record Comparing (a b : List ℕ) (i : ℕ) : Type 0 where
  pub in_first : i ≤ length a
  pub in_second : i ≤ length b
  pub means : before a b ≡ before (drop i a) (drop i b)

pub comparing_start : (a b : List ℕ) → Comparing a b 0
comparing_start a b = record { in_first = omega arith; in_second = omega arith; means = refl }

module _ (a b : List ℕ) (i : ℕ) (h : Comparing a b i) where
  -- the second ends first
  pub second_ends : i < length a → length b ≤ i → false ≡ before a b
  unfolding before
  second_ends l m = let e : drop i b ≡ [] = drop_of_length-le b m in sym (h.means ∙ rw (drop-cons a i 0 l, e))

  -- the first has ended
  pub first_ends : length a ≤ i → ltb (length a) (length b) ≡ before a b
  unfolding before
  first_ends l =
      let k = h.in_first in let z : i ≡ length a = omega arith in
      let e : drop i a ≡ [] = drop_of_length-le a l in
      sym (h.means ∙ rw e (either_way (ltb (length a) (length b))
      (λ t. let g : i < length b = (let q = ltb-true (length a) (length b) t in omega arith) in rw (drop-cons b i 0 g, t))
      (λ f. let g : length b ≤ i = (let q = ltb-false (length a) (length b) f in omega arith) in let d : drop i b ≡ [] = drop_of_length-le b g in rw (d, f))))

  module _ (l : i < length a) (m : i < length b) where
    pub differ_here : (get_or a i 0 ≡ get_or b i 0 → ⊥) → ltb (get_or a i 0) (get_or b i 0) ≡ before a b
    differ_here d =
        sym (h.means ∙ rw (drop-cons a i 0 l, drop-cons b i 0 m)
        (by_first (get_or a i 0) (get_or b i 0) [] []
        (λ x. by_less _ _ _ _ x ∙ sym (lt-ltb _ _ x))
        (λ e. absurd (d e))
        (λ x. let y : get_or b i 0 ≤ get_or a i 0 = omega arith in by_more _ _ _ _ x ∙ sym (le-ltb _ _ y))))

    pub agree_here : get_or a i 0 ≡ get_or b i 0 → Comparing a b (i + 1)
    agree_here e = record {
      in_first = omega arith;
      in_second = omega arith;
      means = h.means ∙ rw (drop-cons a i 0 l, drop-cons b i 0 m, add-one i) (by_rest _ _ _ _ e);
    }
