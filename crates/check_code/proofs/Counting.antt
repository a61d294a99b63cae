-- What the tally of the Calls tells: laws for whoever reads an entry.
use Rattle.std.specs.Prelude.{if◌then◌else◌}
use mathlib.Core.Path.{◌≡◌, refl, sym, subst, ◌∙◌}
use mathlib.Core.Logic.{◌↔◌}
use mathlib.Core.Bool.{Bool, true, false, true≢false, not, ◌&&◌, ◌||◌}
use mathlib.Core.List.{List, [], ◌∷◌, ◌++◌}
use Prim.Native.Nat.{ℕ, ◌+◌, ◌-◌}
use native.Mathlib.Omega.{arith}
use native.Mathlib.Decide.{ℕ_discrete}
use lib.Dec.{eqb}
use borrow.Author.Tests.{eq-eqb, ne_eqb}
use Rattle.check_rules.specs.Rules.{Site, count_in, passes}
use Rattle.check_code.specs.Tallies.{entered, entered_at, tallied, is_named}

-- THE LAW: Calls behind others are entered into the tally of those
pub tallied_behind : (f v : ℕ) (xs ys : List Site) → tallied f v (xs ++ ys) ≡ tallied f (tallied f v xs) ys
unfolding tallied
tallied_behind f v [] ys = refl
tallied_behind f v (x ∷ xs) ys = tallied_behind f (entered_at f v x) xs ys

-- ---- an entry behind its first Call

differs_for_good : (k : ℕ) → entered 1 k ≡ 1
unfolding entered
differs_for_good k = rw (ne_eqb 1 (k + 2) (λ e. omega arith))

entered_again : (k m : ℕ) → entered (k + 2) m ≡ (if eqb m k then k + 2 else 1)
unfolding entered
entered_again k m = rw (ne_eqb (k + 2) 0 (λ e. omega arith)) (same (ℕ_discrete m k))
  where
    same : Dec (m ≡ k) → (if eqb (k + 2) (m + 2) then k + 2 else 1) ≡ (if eqb m k then k + 2 else 1)
    same (yes e) = rw (eq-eqb m k e, eq-eqb (k + 2) (m + 2) (omega arith))
    same (no e) = rw (ne_eqb m k e, ne_eqb (k + 2) (m + 2) (λ z. e (omega arith)))

module _ (f : ℕ) where
  -- two Calls differ: the entry stays 1
  tallied_from_one : (cs : List Site) → tallied f 1 cs ≡ 1
  unfolding tallied entered_at
  tallied_from_one [] = refl
  tallied_from_one (c ∷ cs) = rw differs_for_good (stays (eqb c.function f) (tallied_from_one cs))
    where
      stays : (b : Bool) → tallied f 1 cs ≡ 1 → tallied f (if b then 1 else 1) cs ≡ 1
      stays true h = h
      stays false h = h

  module _ (k : ℕ) where
    onward : (cs : List Site) → tallied f (k + 2) cs ≡ (if passes f k cs then k + 2 else 1) → (named same : Bool)
        → tallied f (if named then (if same then k + 2 else 1) else k + 2) cs ≡ (if (not named || same) && passes f k cs then k + 2 else 1)
    onward cs h true true = h
    onward cs h true false = tallied_from_one cs
    onward cs h false same = h

    -- one Call passes k: the entry stays as long as each other does
    tallied_from_count : (cs : List Site) → tallied f (k + 2) cs ≡ (if passes f k cs then k + 2 else 1)
    unfolding tallied entered_at passes
    tallied_from_count [] = refl
    tallied_from_count (c ∷ cs) = rw (entered_again k c.count) (onward cs (tallied_from_count cs) (eqb c.function f) (eqb c.count k))

-- ---- an entry of all Calls

-- f is named or not, each Call of it passes the same count or not, and the first passes k
abbrev pub entry_of : (named same : Bool) (k : ℕ) → ℕ
entry_of named same k = if named then (if same then k + 2 else 1) else 0

module _ (f : ℕ) where
  abbrev Means : List Site → Type 0
  Means cs = tallied f 0 cs ≡ entry_of (is_named f cs) (passes f (count_in f cs) cs) (count_in f cs)

  one_more : (c : Site) (cs : List Site) → Means cs → (b : Bool) → eqb c.function f ≡ b → Means (c ∷ cs)
  unfolding tallied entered_at entered passes count_in is_named
  one_more c cs h true e =
      let k : c.count ≡ count_in f (c ∷ cs) = rw e in
      rw (e, eq-eqb c.count c.count refl)
      (subst (λ (m : ℕ). tallied f (c.count + 2) cs ≡ (if passes f m cs then c.count + 2 else 1)) k (tallied_from_count f c.count cs))
  one_more c cs h false e =
      let k : count_in f cs ≡ count_in f (c ∷ cs) = rw e in
      rw e (subst (λ (m : ℕ). tallied f 0 cs ≡ entry_of (is_named f cs) (passes f m cs) (count_in f cs)) k h)

  -- THE LAW: it is 0 where no Call names f, 1 where two Calls differ, else the count and two more
  pub tally_means : (cs : List Site) → tallied f 0 cs ≡ entry_of (is_named f cs) (passes f (count_in f cs) cs) (count_in f cs)
  unfolding tallied is_named
  tally_means [] = refl
  tally_means (c ∷ cs) = one_more c cs (tally_means cs) (eqb c.function f) refl

-- ---- what follows from an entry

-- a function that no Call names keeps rule 4, and is taken with none

neither : (a b : Bool) → (a || b) ≡ false → (a ≡ false) × (b ≡ false)
neither true b h = absurd (true≢false h)
neither false b h = (refl, h)

module _ (f : ℕ) where
  unnamed_passes : (k : ℕ) (cs : List Site) → is_named f cs ≡ false → passes f k cs ≡ true
  unfolding is_named passes
  unnamed_passes k [] h = refl
  unnamed_passes k (c ∷ cs) h =
      let not_named = neither (eqb c.function f) (is_named f cs) h in
      rw not_named.0 (unnamed_passes k cs not_named.1)

  unnamed_counts : (cs : List Site) → is_named f cs ≡ false → count_in f cs ≡ 0
  unfolding is_named count_in
  unnamed_counts [] h = refl
  unnamed_counts (c ∷ cs) h =
      let not_named = neither (eqb c.function f) (is_named f cs) h in
      rw not_named.0 (unnamed_counts cs not_named.1)

-- an entry, by cases; that which holds of a function that no Call names is handed in

zero_by_case : (named same : Bool) (k : ℕ) → entry_of named same k ≡ 0 ↔ named ≡ false
zero_by_case true true k = (λ e. absurd (let z : ⊥ = omega arith in z), λ e. absurd (true≢false e))
zero_by_case true false k = (λ e. absurd (let z : ⊥ = omega arith in z), λ e. absurd (true≢false e))
zero_by_case false same k = (λ e. refl, λ e. refl)

one_by_case : (named same : Bool) (k : ℕ) → (named ≡ false → same ≡ true) → entry_of named same k ≡ 1 ↔ same ≡ false
one_by_case true true k u = (λ e. absurd (let z : ⊥ = omega arith in z), λ e. absurd (true≢false e))
one_by_case true false k u = (λ e. refl, λ e. refl)
one_by_case false same k u = (λ e. absurd (let z : ⊥ = omega arith in z), λ e. absurd (true≢false (sym (u refl) ∙ e)))

kept_by_case : (named same : Bool) (k : ℕ) → (named ≡ false → same ≡ true) → (entry_of named same k ≡ 1 → ⊥) → same ≡ true
kept_by_case true true k u h = refl
kept_by_case true false k u h = absurd (h refl)
kept_by_case false same k u h = u refl

count_by_case : (named same : Bool) (k : ℕ) → (named ≡ false → k ≡ 0) → (entry_of named same k ≡ 1 → ⊥) → k ≡ entry_of named same k - 2
count_by_case true true k u h = omega arith
count_by_case true false k u h = absurd (h refl)
count_by_case false same k u h = u refl

-- THE LAWS: what an entry v says
module _ (f : ℕ) (cs : List Site) {v : ℕ} (e : v ≡ tallied f 0 cs) where
  is_entry : v ≡ entry_of (is_named f cs) (passes f (count_in f cs) cs) (count_in f cs)
  is_entry = e ∙ tally_means f cs

  -- 0: no Call names f
  pub zero_exactly : v ≡ 0 ↔ is_named f cs ≡ false
  zero_exactly = rw is_entry (zero_by_case (is_named f cs) (passes f (count_in f cs) cs) (count_in f cs))

  -- 1: two Calls of f differ, and rule 4 is broken
  pub one_exactly : v ≡ 1 ↔ passes f (count_in f cs) cs ≡ false
  one_exactly = rw is_entry (one_by_case (is_named f cs) _ (count_in f cs) (unnamed_passes f (count_in f cs) cs))

  -- another: rule 4 is kept, and v tells the count
  module _ (h : v ≡ 1 → ⊥) where
    pub other_keeps : passes f (count_in f cs) cs ≡ true
    other_keeps = kept_by_case (is_named f cs) _ (count_in f cs) (unnamed_passes f (count_in f cs) cs) (λ z. h (is_entry ∙ z))

    pub other_counts : count_in f cs ≡ v - 2
    other_counts = rw is_entry (count_by_case (is_named f cs) (passes f (count_in f cs) cs) _ (unnamed_counts f cs) (λ z. h (is_entry ∙ z)))
