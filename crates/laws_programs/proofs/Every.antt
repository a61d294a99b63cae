-- A loop that judges place after place, for any test.
use mathlib.Core.Path.{◌≡◌, refl, sym, ◌∙◌}
use mathlib.Core.Bool.{Bool, true, false, ◌&&◌}
use Prim.Native.Nat.{ℕ, zero, suc, ◌+◌, ◌-◌, ◌≤◌, ◌<◌}
use native.Mathlib.Omega.{arith}
use native.Mathlib.Numerals.{add-one}
use lib.Dec.{leb}
use borrow.Author.Tests.{le-leb, lt-leb}
use denote.Param.Members.{Mut}
use Rattle.std.specs.Bool.{MatchBool}
use Rattle.std.specs.Fn.{Called}
use Rattle.std.specs.Iterator.{ChecksAll}
use Rattle.std.proofs.iter.Yields.{nat_range_steps}
use Rattle.std.proofs.lemmas.Iterator.{cases_from_all, YieldsList-from_range}
use Rattle.std.specs.List.{AllWithin, HoldsAt, range_with_len}
use lib.ListN.{length}
use Rattle.std.proofs.lemmas.List.FromFn.{length-range_with_len, get_or-range_with_len}
use Rattle.model.specs.Basics.{every_from}
use Rattle.layout.proofs.Bools.{apart, either_way, and_left, and_right, and_both, and_not}

-- the first i of n places have passed: the rest decides the whole
pub record Passed (whole : Bool) (n : ℕ) (t : ℕ → Bool) (i : ℕ) : Type 0 where
  pub within : i ≤ n
  pub means : whole ≡ every_from (n - i) i t

-- a whole that says: n places in the room, and each passes
pub record Judged (whole : Bool) (n room : ℕ) (t : ℕ → Bool) : Type 0 where
  pub says : whole ≡ (leb n room && every_from n 0 t)

module _ {whole : Bool} {n room : ℕ} {t : ℕ → Bool} (j : Judged whole n room t) (r : ℕ) (e : r ≡ room) where
  pub too_many : r < n → false ≡ whole
  too_many h = sym (j.says ∙ and_not _ _ (lt-leb _ _ (rw e at h)))

  pub none_yet : n ≤ r → Passed whole n t 0
  none_yet h = record { within = omega arith; means = let z : n - 0 ≡ n = omega arith in j.says ∙ rw (le-leb _ _ (rw e at h), z) }

module _ {whole : Bool} {n : ℕ} {t : ℕ → Bool} {i : ℕ} (h : Passed whole n t i) where
  pub all_passed : n ≤ i → true ≡ whole
  unfolding every_from
  all_passed l = let z : n - i ≡ 0 = omega arith in sym (h.means ∙ rw z)

  module _ (l : i < n) (b : Bool) (e : b ≡ t i) where
    pub one_fails : b ≡ false → false ≡ whole
    unfolding every_from
    one_fails f = let z : n - i ≡ suc (n - suc i) = omega arith in sym (h.means ∙ rw (z, ← e, f))

    pub one_more : b ≡ true → Passed whole n t (i + 1)
    unfolding every_from
    one_more f = record {
      within = omega arith;
      means = let z : n - i ≡ suc (n - suc i) = omega arith in h.means ∙ rw (add-one, z, ← e, f);
    }

-- what every place has passed, a place below has
pub passed_at : (n i : ℕ) (t : ℕ → Bool) → every_from n i t ≡ true → (j : ℕ) → j < n → t (i + j) ≡ true
unfolding every_from
passed_at zero i t e j h = absurd (let y : ⊥ = omega arith in y)
passed_at (suc n) i t e zero h = let z : i + 0 ≡ i = omega arith in rw z (and_left (t i) (every_from n (suc i) t) e)
passed_at (suc n) i t e (suc j) h = let z : i + suc j ≡ suc i + j = omega arith in rw z (passed_at n (suc i) t (and_right (t i) (every_from n (suc i) t) e) j (omega arith))

pub passed : (n : ℕ) (t : ℕ → Bool) → every_from n 0 t ≡ true → (i : ℕ) → i < n → t i ≡ true
passed n t e i h = let z : 0 + i ≡ i = omega arith in rw z at (passed_at n 0 t e i h)

-- and what each place passes, all pass
pub pass_all : (n i : ℕ) (t : ℕ → Bool) → ((j : ℕ) → j < n → t (i + j) ≡ true) → every_from n i t ≡ true
unfolding every_from
pass_all zero i t h = refl
pass_all (suc n) i t h =
    let z : i + 0 ≡ i = omega arith in
    and_both (t i) (every_from n (suc i) t) (rw z at (h 0 (omega arith))) (pass_all n (suc i) t (λ j l. let y : i + suc j ≡ suc i + j = omega arith in rw y at (h (suc j) (omega arith))))

-- ---- the library's `all` over the numbers from i on

one_against : (n i : ℕ) (t : ℕ → Bool) (k : ℕ) → k < n → t (i + k) ≡ false → every_from n i t ≡ false
one_against n i t k l f = either_way (every_from n i t) (λ e. apart (t (i + k)) (passed_at n i t e k l) f) (λ x. x)

every_is : (n i : ℕ) (t : ℕ → Bool) (r : Bool)
    → MatchBool r (AllWithin (λ x. t x ≡ true) (range_with_len i n) 0 (length (range_with_len i n)))
    ((k : ℕ) × (k < length (range_with_len i n)) × HoldsAt (λ x. t x ≡ false) (range_with_len i n) k)
    → r ≡ every_from n i t
every_is n i t true h = sym (pass_all n i t (λ j l. rw get_or-range_with_len at (h j 0 (omega arith) (rw length-range_with_len l))))
every_is n i t false h = let l : h.0 < n = rw length-range_with_len at h.1 in sym (one_against n i t h.0 l (rw get_or-range_with_len at (h.2 0)))

-- what it answers, where the test answers as t and stays as it is
pub all_is : (n : ℕ) (t : ℕ → Bool) {F : Type 0} {g : Mut F (ℕ × Unit {0}) Bool} {s : _} {u : _} {f : F} {r : Bool}
    → ChecksAll nat_range_steps g s f r u → s ≡ record { start = 0; end = n }
    → ((x : ℕ) (q : F) → Called g f (x, tt) true q → (q ≡ f) × (t x ≡ true))
    → ((x : ℕ) (q : F) → Called g f (x, tt) false q → t x ≡ false)
    → r ≡ every_from n 0 t
all_is n t ran e pass fail =
    every_is n 0 t _ (cases_from_all _ _ _ (λ x. t x ≡ true) (λ x. t x ≡ false) ran (YieldsList-from_range 0 n n e (omega arith)) pass fail)

-- and behind a test of the room: the numbers of the places are judged only where the room has them
module _ {whole : Bool} {n room : ℕ} {t : ℕ → Bool} (j : Judged whole n room t) (r : ℕ) (e : r ≡ room) where
  pub in_room : n ≤ r → (b : Bool) → b ≡ every_from n 0 t → b ≡ whole
  in_room h b f = f ∙ sym (j.says ∙ rw (le-leb n room (rw e at h)))

  pub no_room : r < n → leb n r ≡ whole
  no_room h = lt-leb n r h ∙ too_many j r e h
