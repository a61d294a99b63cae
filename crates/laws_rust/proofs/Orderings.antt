-- The Rust asks how two numbers compare and then what the opcode makes of it; the rules ask binary64 at once. They answer the same.
use Rattle.std.specs.Prelude.{if◌then◌else◌}
use mathlib.Core.Path.{◌≡◌, refl}
use mathlib.Core.Bool.{Bool, true, false, ◌&&◌, ◌||◌, and-false}
use mathlib.Core.Logic.{⊎_elim}
use Prim.Native.Nat.{ℕ, zero, suc, ◌+◌, ◌*◌, ◌<◌, ◌≤◌}
use native.Mathlib.Omega.{arith}
use borrow.Author.Tests.{lt-ltb, le-ltb, eq-eqb, ne_eqb}
use lib.Dec.{eqb, ltb}
use lib.Ieee.{Float, nan, inf, fin, up, down, below, level, lt, eq, is_nan}
use Rattle.cells.proofs.Order.{by_less}

-- how x and y compare: one is a NaN; x < y, x = y, y < x, y = x
pub data Compared : (unordered less equal greater equal' : Bool) → Type 0 where
  unordered : Compared true false false false false
  less : Compared false true false false false
  equal : Compared false false true false true
  greater : Compared false false false true false

turned : {u l e g e' : Bool} → Compared u l e g e' → Compared u l e' g e
turned unordered = unordered
turned less = less
turned equal = equal
turned greater = greater

-- ---- numbers with signs: ±a and ±b

above : (a b : ℕ) → Compared false (ltb a b) (eqb a b && true) (ltb b a) (eqb b a && true)
above a b =
    ⊎_elim
    (λ l. rw (lt-ltb a b l, ne_eqb a b (λ e. omega arith), le-ltb b a (omega arith), ne_eqb b a (λ e. omega arith)) less)
    (λ h. ⊎_elim
    (λ g. rw (le-ltb a b (omega arith), ne_eqb a b (λ e. omega arith), lt-ltb b a g, ne_eqb b a (λ e. omega arith)) greater)
    (λ g. rw (le-ltb a b (omega arith), eq-eqb a b (omega arith), le-ltb b a (omega arith), eq-eqb b a (omega arith)) equal)
    (by_less b a))
    (by_less a b)

-- the two zeros are equal, and nothing else across the signs is
across_apart : (a b : ℕ) → 0 < a + b → eqb a b && eqb a 0 ≡ false
across_apart zero zero h = absurd (let z : ⊥ = omega arith in z)
across_apart zero (suc b) h = rw (ne_eqb 0 (suc b) (λ e. omega arith))
across_apart (suc a) zero h = rw (ne_eqb (suc a) 0 (λ e. omega arith))
across_apart (suc a) (suc b) h = rw (ne_eqb (suc a) 0 (λ e. omega arith)) (and-false (eqb (suc a) (suc b)))

across_zero : (a b : ℕ) → a + b ≤ 0 → eqb a b && eqb a 0 ≡ true
across_zero a b h = rw (eq-eqb a b (omega arith), eq-eqb a 0 (omega arith))

signed : (s : Bool) (a : ℕ) (t : Bool) (b : ℕ) → Compared false (below s a t b) (level s a t b) (below t b s a) (level t b s a)
signed false a false b = above a b
signed false a true b =
    ⊎_elim
    (λ l. rw (across_apart a b (omega arith), lt-ltb 0 (b + a) l, across_apart b a l) greater)
    (λ g. rw (across_zero a b (omega arith), le-ltb 0 (b + a) g, across_zero b a g) equal)
    (by_less 0 (b + a))
signed true a false b =
    ⊎_elim
    (λ l. rw (across_apart a b l, lt-ltb 0 (a + b) l, across_apart b a (omega arith)) less)
    (λ g. rw (across_zero a b g, le-ltb 0 (a + b) g, across_zero b a (omega arith)) equal)
    (by_less 0 (a + b))
signed true a true b = turned (above b a)

pub compared : (x y : Float) → Compared (is_nan x || is_nan y) (lt x y) (eq x y) (lt y x) (eq y x)
unfolding is_nan lt eq
compared nan nan = unordered
compared nan (inf t) = unordered
compared nan (fin t n d) = unordered
compared (inf s) nan = unordered
compared (inf true) (inf true) = equal
compared (inf true) (inf false) = less
compared (inf false) (inf true) = greater
compared (inf false) (inf false) = equal
compared (inf true) (fin t n d) = less
compared (inf false) (fin t n d) = greater
compared (fin s m e) nan = unordered
compared (fin s m e) (inf true) = greater
compared (fin s m e) (inf false) = less
compared (fin s m e) (fin t n d) = signed s (m * up e * down d) t (n * up d * down e)

-- ---- what each of the four makes of it

abbrev made_of : (unordered less equal : Bool) → Bool → Bool → Bool → Bool
made_of u l e x y z = if u then false else (if l then x else (if e then y else z))

pub less_than : {u l e g e' : Bool} → Compared u l e g e' → made_of u l e true false false ≡ l
less_than unordered = refl
less_than less = refl
less_than equal = refl
less_than greater = refl

pub greater_than : {u l e g e' : Bool} → Compared u l e g e' → made_of u l e false false true ≡ g
greater_than unordered = refl
greater_than less = refl
greater_than equal = refl
greater_than greater = refl

pub less_or_equal : {u l e g e' : Bool} → Compared u l e g e' → made_of u l e true true false ≡ l || e
less_or_equal unordered = refl
less_or_equal less = refl
less_or_equal equal = refl
less_or_equal greater = refl

pub greater_or_equal : {u l e g e' : Bool} → Compared u l e g e' → made_of u l e false true true ≡ g || e'
greater_or_equal unordered = refl
greater_or_equal less = refl
greater_or_equal equal = refl
greater_or_equal greater = refl
