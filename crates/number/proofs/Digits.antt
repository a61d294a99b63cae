-- The groups of a number, one after the other.
use mathlib.Core.Path.{◌≡◌, refl, sym, ap, ◌∙◌}
use mathlib.Core.Bool.{Bool, true, false}
use mathlib.Core.List.{List, [], ◌∷◌}
use Prim.Native.Nat.{ℕ, zero, suc, ◌+◌, ◌-◌, ◌*◌, ◌/◌, ◌%◌, ◌≤◌, ◌<◌, ◌^◌}
use native.Mathlib.Omega.{arith}
use lib.Dec.{ltb}
use lib.Count.{count_leading_zeros, leading_top}
use lib.Pow.{pow_mono, pow-add}
use lib.ListN.{length}
use borrow.Author.Tests.{lt-ltb, le-ltb, ltb-true, ltb-false}
use Rattle.model.specs.Numbers.{groups_of, digits}
use Rattle.number.specs.Links.{limit}

-- a is below b, or not
pub by_lt : {P : Type 0} (a b : ℕ) → (a < b → P) → (b ≤ a → P) → P
by_lt {P} a b f g = go (ltb a b) refl
  where
    go : (t : Bool) → ltb a b ≡ t → P
    go true e = f (ltb-true a b e)
    go false e = g (ltb-false a b e)

pub limit_4 : limit 4 ≡ 2 ^ 32
unfolding limit
limit_4 = refl

-- a last group
pub one : (f n : ℕ) → n < 128 → groups_of f n ≡ n ∷ []
unfolding groups_of
one zero n h = refl
one (suc f) n h = rw (lt-ltb n 128 h)

-- a group and others behind it
pub many : (f n : ℕ) → 128 ≤ n → groups_of (suc f) n ≡ (128 + n % 128) ∷ groups_of f (n / 128)
unfolding groups_of
many f n h = rw (le-ltb n 128 h)

-- room for one group more changes nothing
enough : (f n : ℕ) → n < limit f → groups_of f n ≡ groups_of (suc f) n
unfolding limit
enough zero n h = one 0 n (omega arith) ∙ sym (one 1 n (omega arith))
enough (suc f) n h =
    by_lt n 128 (λ l. one (suc f) n l ∙ sym (one (suc (suc f)) n l))
    (λ g. many f n g ∙ ap (λ (r : List ℕ). (128 + n % 128) ∷ r) (enough f (n / 128) (omega arith)) ∙ sym (many (suc f) n g))

pub digits_one : (n : ℕ) → n < 128 → digits n ≡ n ∷ []
unfolding digits
digits_one n h = one 4 n h

pub digits_many : (n : ℕ) → 128 ≤ n → n < 2 ^ 32 → digits n ≡ (128 + n % 128) ∷ digits (n / 128)
unfolding digits limit
digits_many n h l = many 3 n h ∙ ap (λ (r : List ℕ). (128 + n % 128) ∷ r) (enough 3 (n / 128) (omega arith))

-- k groups of seven bits hold the numbers below this
abbrev pub span : ℕ → ℕ
span zero = 1
span (suc k) = 128 * span k

-- the least number of k + 1 groups
abbrev pub least : ℕ → ℕ
least zero = 0
least (suc k) = span (suc k)

some : (k : ℕ) → 1 ≤ span k
some zero = omega arith
some (suc k) = let z : 1 ≤ span k = some k in omega arith

down : (k n : ℕ) → span (suc k) ≤ n → least k ≤ n / 128
down zero n h = omega arith
down (suc k) n h = omega arith

pub size : (k n : ℕ) → n < 2 ^ 32 → least k ≤ n → n < span (suc k) → suc k ≡ length (digits n)
size zero n h l u = sym (ap length (digits_one n u))
size (suc k) n h l u =
    let s : 1 ≤ span k = some k in
    ap suc (size k (n / 128) (omega arith) (down k n l) (omega arith)) ∙ sym (ap length (digits_many n (omega arith) h))

-- ---- the groups by the place j of the highest set bit

span_is : (k : ℕ) → span k ≡ 2 ^ (7 * k)
span_is zero = refl
span_is (suc k) = ap (λ (x : ℕ). 128 * x) (span_is k) ∙ sym (pow-add 2 7 (7 * k)) ∙ (let z : 7 + 7 * k ≡ 7 * suc k = omega arith in ap (λ (x : ℕ). 2 ^ x) z)

least_span : (k : ℕ) → least k ≤ span k
least_span zero = omega arith
least_span (suc k) = omega arith

pub by_highest : (n j : ℕ) → n < 2 ^ 32 → 2 ^ j ≤ n → n < 2 ^ suc j → suc (j / 7) ≡ length (digits n)
by_highest n j h l u =
    let low : 2 ^ (7 * (j / 7)) ≤ 2 ^ j = pow_mono (omega arith) in
    let high : 2 ^ suc j ≤ 2 ^ (7 * suc (j / 7)) = pow_mono (omega arith) in
    let a = span_is (j / 7) in
    let b = span_is (suc (j / 7)) in
    let c = least_span (j / 7) in
    size (j / 7) n h (omega arith) (omega arith)

-- seven bits to a group: 38 less the leading zeros, by seven
pub by_leading_zeros : (n : ℕ) → 0 < n → n < 2 ^ 32 → (38 - count_leading_zeros 32 n) / 7 ≡ length (digits n)
by_leading_zeros n p h =
    let t = leading_top 32 n p h in
    let e : (38 - count_leading_zeros 32 n) / 7 ≡ suc (t.0 / 7) = (let z = t.1 in omega arith) in
    e ∙ by_highest n t.0 h t.2 t.3
