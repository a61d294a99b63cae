-- Reading and writing a number undo each other: what is written of a number below 2 ^ 32 reads back, and nothing else reads as that number.
use mathlib.Core.Path.{◌≡◌, sym, ap, ◌∙◌}
use mathlib.Core.List.{List, [], ◌∷◌, ◌++◌}
use Prim.Native.Nat.{ℕ, zero, suc, ◌+◌, ◌-◌, ◌*◌, ◌/◌, ◌%◌, ◌≤◌, ◌<◌}
use native.Mathlib.Omega.{arith}
use borrow.Author.Tests.{lt-ltb, le-ltb}
use Rattle.model.specs.Numbers.{Step, got, bad, item, Bytes, Codes, groups_of, digits, more, groups, number}
use Rattle.model.specs.Numbers.{Small}
use Rattle.number.specs.Links.{limit}
use Rattle.number.proofs.Digits.{by_lt, limit_4, one, many}

-- a broken reading reads nothing
pub never : {A : Type 0} {a : A} {r : List ℕ} {n : ℕ} → ◌≡◌ {A = Step A} (bad n) (got a r) → ⊥
never e = let z : ◌≡◌ {A = ℕ} 0 1 = cc in omega arith

-- an item reads where its bytes do
pub item_only : {A : Type 0} (b : List ℕ) (s : Step A) (a : A) (r : List ℕ) → item b s ≡ got a r → s ≡ got a r
unfolding item
item_only b (got x s) a r e = e
item_only b (bad n) a r e = absurd (never e)

-- how a group in front of others was read
pub more_got : (d : ℕ) (s : Step ℕ) (n : ℕ) (r : List ℕ) → more d s ≡ got n r → (q : ℕ) × (s ≡ got q r) × (0 < q) × (n ≡ d + 128 * q)
unfolding more
more_got d (got zero t) n r e = absurd (never e)
more_got d (got (suc q) t) n r e =
    let a : t ≡ r = cc in let c : n ≡ d + 128 * suc q = cc in (suc q, rw a, omega arith, c)
more_got d (bad k) n r e = absurd (never e)

-- the first group of a reading
pub last_group : (f x : ℕ) (r : List ℕ) → x < 128 → groups (suc f) (x ∷ r) ≡ got x r
unfolding groups
last_group f x r h = rw (lt-ltb x 128 h)

pub front_group : (f x : ℕ) (r : List ℕ) → 128 ≤ x → groups (suc f) (x ∷ r) ≡ more (x - 128) (groups f r)
unfolding groups
front_group f x r h = rw (le-ltb x 128 h)

pub end_group : (x : ℕ) (r : List ℕ) → x < 16 → groups 0 (x ∷ r) ≡ got x r
unfolding groups
end_group x r h = rw (lt-ltb x 16 h)

pub no_group : (x : ℕ) (r : List ℕ) → 16 ≤ x → groups 0 (x ∷ r) ≡ bad 0
unfolding groups
no_group x r h = rw (le-ltb x 16 h)

-- a group below 128 keeps any limit but the last
pub below : (f n : ℕ) → n < 128 → n < limit (suc f)
unfolding limit
below zero n h = omega arith
below (suc f) n h = let z : n < limit (suc f) = below f n h in omega arith

back : (f n : ℕ) (r : List ℕ) → n < limit f → groups f (groups_of f n ++ r) ≡ got n r
unfolding limit more
back zero n r h = rw (one 0 n (omega arith)) (end_group n r h)
back (suc f) n r h =
    by_lt n 128 (λ l. rw (one (suc f) n l) (last_group f n r l))
    (λ g.
    let q : ℕ = n / 128 - 1 in
    let e : n / 128 ≡ suc q = omega arith in
    let rest : groups f (groups_of f (n / 128) ++ r) ≡ got (suc q) r = rw (← e) (back f (n / 128) r (omega arith)) in
    rw (many f n g, front_group f (128 + n % 128) (groups_of f (n / 128) ++ r) (omega arith), rest)
    (ap (λ (m : ℕ). got m r) (omega arith)))

-- a group that ends the number
ended : (f x n : ℕ) (s r : List ℕ) → x < 128 → got x s ≡ got n r → (x ∷ s ≡ groups_of f n ++ r) × (n ≡ x)
ended f x n s r l e =
    let p : n ≡ x = cc in
    let q : s ≡ r = cc in
    (rw (p, one f x l, q), p)

only : (f : ℕ) (b : List ℕ) (n : ℕ) (r : List ℕ) → Bytes b → groups f b ≡ got n r → (b ≡ groups_of f n ++ r) × (n < limit f)
unfolding groups limit Bytes
only f [] n r y e = absurd (never e)
only zero (x ∷ s) n r y e =
    by_lt x 16
    (λ l. let z = ended 0 x n s r (omega arith) (sym (end_group x s l) ∙ e) in (z.0, rw z.1 l))
    (λ g. absurd (never (sym (no_group x s g) ∙ e)))
only (suc f) (x ∷ s) n r y e =
    by_lt x 128
    (λ l. let z = ended (suc f) x n s r l (sym (last_group f x s l) ∙ e) in (z.0, rw z.1 (below f x l)))
    (λ g.
    let m = more_got (x - 128) (groups f s) n r (sym (front_group f x s g) ∙ e) in
    let rest = only f s m.0 r y.1 m.1 in
    let byte : x < 256 = y.0 in
    let pos : 0 < m.0 = m.2 in
    let sum : n ≡ x - 128 + 128 * m.0 = m.3 in
    let small : m.0 < limit f = rest.1 in
    let low : 128 + n % 128 ≡ x = omega arith in
    let high : n / 128 ≡ m.0 = omega arith in
    (rw (many f n (omega arith), low, high) (ap (λ (t : List ℕ). x ∷ t) rest.0), omega arith))

pub number_codes : Codes Small digits number
unfolding number digits item
number_codes = record {
  back = λ n r h. rw (back 4 n r (rw limit_4 h));
  only = λ b n r y e. let z = only 4 b n r y (item_only b (groups 4 b) n r e) in (z.0, rw limit_4 at z.1);
}
