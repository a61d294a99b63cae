-- Decimal digits: one more, and how many there are.
use mathlib.Core.Path.{◌≡◌, refl, sym, ap, ◌∙◌}
use mathlib.Core.Bool.{true, false, ◌&&◌}
use mathlib.Core.List.{List, [], ◌∷◌, ◌++◌, append_assoc}
use Prim.Native.Nat.{ℕ, zero, suc, ◌+◌, ◌-◌, ◌*◌, ◌/◌, ◌%◌, ◌≤◌, ◌<◌, ◌^◌}
use native.Mathlib.Omega.{arith}
use lib.Dec.{ltb}
use lib.ListN.{length, replicate, length-append, length-replicate}
use borrow.Author.Tests.{lt-ltb, le-ltb, ltb-true, ltb-false}
use Rattle.model.specs.Basics.{ascii}
use Rattle.model.specs.Listings.{decimal_for, decimal, digits_or_more}
use Rattle.layout.proofs.Bools.{apart, and_left, and_right, either_way}
use Rattle.printing.specs.Links.{Put}
use Rattle.printing.proofs.Puts.{is, within, both}

-- a is below b, or not
pub by_lt : {P : Type 0} (a b : ℕ) → (a < b → P) → (b ≤ a → P) → P
by_lt a b f g = either_way (ltb a b) (λ e. f (ltb-true a b e)) (λ e. g (ltb-false a b e))

one_for : (f n : ℕ) → n < 10 → decimal_for f n ≡ (48 + n) ∷ []
unfolding decimal_for
one_for zero n h = refl
one_for (suc f) n h = rw (lt-ltb n 10 h)

many_for : (f n : ℕ) → 10 ≤ n → decimal_for (suc f) n ≡ decimal_for f (n / 10) ++ ((48 + n % 10) ∷ [])
unfolding decimal_for
many_for f n h = rw (le-ltb n 10 h)

-- numbers of f + 1 digits are below this
abbrev limit : ℕ → ℕ
limit zero = 10
limit (suc f) = 10 * limit f

-- a digit more to spare changes nothing
spare : (f n : ℕ) → n < limit f → decimal_for f n ≡ decimal_for (suc f) n
spare zero n h = one_for 0 n h ∙ sym (one_for 1 n h)
spare (suc f) n h =
    by_lt n 10 (λ l. one_for (suc f) n l ∙ sym (one_for (suc (suc f)) n l))
    (λ g. many_for f n g ∙ ap (λ (r : List ℕ). r ++ ((48 + n % 10) ∷ [])) (spare f (n / 10) (omega arith)) ∙ sym (many_for (suc f) n g))

decimal_one : (n : ℕ) → n < 10 → decimal n ≡ (48 + n) ∷ []
unfolding decimal
decimal_one n h = one_for 19 n h

decimal_many : (n : ℕ) → n < 2 ^ 64 → 10 ≤ n → decimal n ≡ decimal (n / 10) ++ ((48 + n % 10) ∷ [])
unfolding decimal
decimal_many n l h = many_for 18 n h ∙ ap (λ (r : List ℕ). r ++ ((48 + n % 10) ∷ [])) (spare 18 (n / 10) (omega arith))

-- ---- how many digits

longer : (l : List ℕ) (x : ℕ) → length (l ++ (x ∷ [])) ≡ length l + 1
longer l x = length-append l (x ∷ [])

short_for : (f n : ℕ) → (1 ≤ length (decimal_for f n)) × (length (decimal_for f n) ≤ suc f)
unfolding decimal_for
short_for zero n = (omega arith, omega arith)
short_for (suc f) n =
    by_lt n 10 (λ l. rw (one_for (suc f) n l) (omega arith, omega arith))
    (λ g.
    let z : (1 ≤ length (decimal_for f (n / 10))) × (length (decimal_for f (n / 10)) ≤ suc f) = short_for f (n / 10) in
    let e = longer (decimal_for f (n / 10)) (48 + n % 10) in
    rw (many_for f n g) (omega arith, omega arith))

pub short : (n : ℕ) → (1 ≤ length (decimal n)) × (length (decimal n) ≤ 20)
unfolding decimal
short n = short_for 19 n

few_for : (f k n : ℕ) → n < limit k → length (decimal_for f n) ≤ suc k
unfolding decimal_for
few_for zero k n h = omega arith
few_for (suc f) zero n h = rw (one_for (suc f) n h) (omega arith)
few_for (suc f) (suc k) n h =
    by_lt n 10 (λ l. rw (one_for (suc f) n l) (omega arith))
    (λ g.
    let z : length (decimal_for f (n / 10)) ≤ suc k = few_for f k (n / 10) (omega arith) in
    let e = longer (decimal_for f (n / 10)) (48 + n % 10) in
    rw (many_for f n g) (omega arith))

-- four digits or more: five where five are enough
pub five : (n : ℕ) → n < 100000 → length (digits_or_more 4 n) ≤ 5
unfolding decimal digits_or_more
five n h = let z = few_for 19 4 n h in simp (length-append, length-replicate) (omega arith)

length_one : (n : ℕ) → n < 10 → length (decimal n) ≡ 1
length_one n h = ap length (decimal_one n h)

length_many : (n : ℕ) → n < 2 ^ 64 → 10 ≤ n → length (decimal n) ≡ suc (length (decimal (n / 10)))
length_many n l h = let e = longer (decimal (n / 10)) (48 + n % 10) in ap length (decimal_many n l h) ∙ omega arith

-- ---- with as many digits as another number has, or more

abbrev pub like : ℕ → ℕ → List ℕ
like m n = digits_or_more (length (decimal m)) n

one_again : (x k : ℕ) → replicate k x ++ (x ∷ []) ≡ x ∷ replicate k x
one_again x zero = refl
one_again x (suc k) = ap (λ (r : List ℕ). x ∷ r) (one_again x k)

pub like_short : (m n : ℕ) → length (like m n) ≤ 20
unfolding digits_or_more
like_short m n =
    let a = short m in
    let b = short n in
    simp (length-append, length-replicate) (omega arith)

like_one : (m n : ℕ) → m < 10 → n < 10 → like m n ≡ (48 + n) ∷ []
unfolding digits_or_more
like_one m n h g = rw (length_one m h, length_one n g, decimal_one n g)

like_zeros : (m n : ℕ) → m < 2 ^ 64 → 10 ≤ m → n < 10 → like m n ≡ like (m / 10) (n / 10) ++ ((48 + n % 10) ∷ [])
unfolding digits_or_more
like_zeros m n l h g =
    let z : n / 10 ≡ 0 = omega arith in
    let y : n % 10 ≡ n = omega arith in
    let b = short (m / 10) in
    let w : length (decimal m) - 1 ≡ suc (length (decimal (m / 10)) - 1) = (let e = length_many m l h in omega arith) in
    rw (z, y, length_one n g, decimal_one n g, length_one 0 (omega arith), decimal_one 0 (omega arith), w)
    (ap (λ (r : List ℕ). r ++ ((48 + n) ∷ [])) (sym (one_again 48 (length (decimal (m / 10)) - 1))))

like_many : (m n : ℕ) → m < 2 ^ 64 → n < 2 ^ 64 → 10 ≤ n → like m n ≡ like (m / 10) (n / 10) ++ ((48 + n % 10) ∷ [])
unfolding digits_or_more
like_many m n l k h =
    let b = short (n / 10) in
    let e = length_many n k h in
    let z : length (decimal m) - length (decimal n) ≡ length (decimal (m / 10)) - length (decimal (n / 10)) =
    by_lt m 10 (λ g. let x = length_one m g in let y = length_one (m / 10) (omega arith) in omega arith) (λ g. let x = length_many m l g in omega arith) in
    rw (z, decimal_many n k h, append_assoc)

like_more : (m n : ℕ) → m < 2 ^ 64 → n < 2 ^ 64 → (ltb n 10 && ltb m 10) ≡ false → like m n ≡ like (m / 10) (n / 10) ++ ((48 + n % 10) ∷ [])
like_more m n l k t =
    by_lt n 10 (λ g. by_lt m 10 (λ f. apart _ (rw (lt-ltb n 10 g, lt-ltb m 10 f)) t) (λ f. like_zeros m n l f g)) (λ g. like_many m n l k g)

-- no digits asked for, and four
pub plain : (n : ℕ) → like 0 n ≡ decimal n
unfolding digits_or_more
plain n =
    let a = short n in
    let z : length (decimal 0) - length (decimal n) ≡ 0 = (let x = length_one 0 (omega arith) in omega arith) in
    rw z

pub four : (n : ℕ) → like 1000 n ≡ digits_or_more 4 n
unfolding decimal decimal_for
four n = refl

-- ---- `write_decimal`

module _ (m n : ℕ) (t : (ltb n 10 && ltb m 10) ≡ true) where
  pub digit : n < 10
  digit = ltb-true n 10 (and_left (ltb n 10) (ltb m 10) t)

  pub one_digit : {s : List ℕ} {at : ℕ} {s' : List ℕ} {r : ℕ} → Put 1 ((48 + n) ∷ []) s at s' r → Put 20 (like m n) s at s' r
  one_digit p =
      let f : m < 10 = ltb-true m 10 (and_right (ltb n 10) (ltb m 10) t) in
      within (is p (sym (like_one m n f digit))) 20 (omega arith)

module _ (m n : ℕ) (l : m < 2 ^ 64) (k : n < 2 ^ 64) (t : (ltb n 10 && ltb m 10) ≡ false) where
  pub falling : n / 10 + m / 10 < n + m
  falling = by_lt n 10 (λ g. by_lt m 10 (λ f. apart _ (rw (lt-ltb n 10 g, lt-ltb m 10 f)) t) (λ f. omega arith)) (λ g. omega arith)

  module _ {s : List ℕ} {at : ℕ} {s' : List ℕ} {r : ℕ} (p : Put 20 (like (m / 10) (n / 10)) s at s' r) where
    pub last_fits : r + 1 ≤ at + 20
    last_fits =
        let z = ap length (like_more m n l k t) ∙ longer (like (m / 10) (n / 10)) (48 + n % 10) in
        let y = like_short m n in
        let e = p.next in
        omega arith

    pub more_digits : {u : List ℕ} {q : ℕ} → Put 1 ((48 + n % 10) ∷ []) s' r u q → Put 20 (like m n) s at u q
    more_digits w =
        let y = last_fits in
        let e = w.near in
        let b = both p w in
        is (record { stored = b.stored; next = b.next; near = omega arith }) (sym (like_more m n l k t))

-- ---- a text and a number, and a line of them

module _ (name : List ℕ) (n : ℕ) {s₀ s₁ s₂ : List ℕ} {i₀ i₁ i₂ : ℕ} where
  pub count_is : Put (length name) name s₀ i₀ s₁ i₁ → Put 20 (like 0 n) s₁ i₁ s₂ i₂ → Put (length name + 20) (name ++ decimal n) s₀ i₀ s₂ i₂
  count_is p q = both p (is q (plain n))

  pub line_is : Put (length name + 20) (name ++ decimal n) s₀ i₀ s₁ i₁ → Put 1 (ascii "\n") s₁ i₁ s₂ i₂ → Put (length name + 21) (name ++ decimal n ++ ascii "\n") s₀ i₀ s₂ i₂
  line_is p q = within (both p q) (length name + 21) (omega arith)
