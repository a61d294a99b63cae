-- The refusals of what crosses, and their order with the entry's own.
use Rattle.std.proofs.Common.{◌≡◌, refl, arith}
use mathlib.Core.Bool.{Bool, true, false}
use mathlib.Core.List.{List, [], ◌∷◌}
use Prim.Native.Nat.{ℕ, ◌≤◌, ◌<◌}
use borrow.Author.Tests.{le-leb, lt-leb}
use lib.Dec.{eqb}
use lib.ListN.{length}
use Rattle.std.specs.List.{list_any}
use Rattle.model.specs.Values.{exact_value}
use Rattle.embed_words.specs.Coding.{record_ok, slices_refusal, value_refusal, among}

-- ---- refusals

module _ (w : List ℕ) (n : ℕ) (a : List ℕ) where
  module _ {ok : Bool} (e : ok ≡ record_ok w) where
    pub slices_fit : ok ≡ true → n ≤ length a → 0 ≡ slices_refusal w n a
    unfolding slices_refusal
    slices_fit y l = rw (← e, y, le-leb n (length a) l)

    pub answer_short : ok ≡ true → length a < n → 17 ≡ slices_refusal w n a
    unfolding slices_refusal
    answer_short y l = rw (← e, y, lt-leb n (length a) l)

    pub no_record : ok ≡ false → 19 ≡ slices_refusal w n a
    unfolding slices_refusal
    no_record y = rw (← e, y)

  module _ (k p : ℕ) {ok : Bool} (e : ok ≡ exact_value k p) where
    pub value_exact : ok ≡ true → {why : ℕ} → why ≡ slices_refusal w n a → why ≡ value_refusal w k p n a
    unfolding value_refusal
    value_exact y f = rw (← e, y, f)

    pub value_inexact : ok ≡ false → 19 ≡ value_refusal w k p n a
    unfolding value_refusal
    value_inexact y = rw (← e, y)

-- ---- their order with the entry's own

-- the library's search finds a number that comes first
pub among_is : (firsts : List ℕ) (n : ℕ) {b : Bool} → b ≡ list_any (λ k. eqb k n) firsts → among firsts n ≡ b
unfolding among
among_is [] n e = rw e
among_is (k ∷ firsts) n e = rw (e, among_is firsts n refl, turned n k)
  where
    turned : (a b : ℕ) → eqb a b ≡ eqb b a
    turned a b = grind arith
