-- Tests: joined by and, and decided either way.
use mathlib.Core.Path.{◌≡◌, refl, sym, ◌∙◌}
use mathlib.Core.Bool.{Bool, true, false, ◌&&◌, true≢false, and-eq-true_iff}
pub use mathlib.Mathlib.Data.Bool.Basic.{and_elim_left as and_left, and_elim_right as and_right}

-- nothing is both true and false
pub apart : {A : Type 0} (b : Bool) → b ≡ true → b ≡ false → A
apart b e f = absurd (true≢false (sym e ∙ f))

pub either_way : {A : Type 0} (b : Bool) → (b ≡ true → A) → (b ≡ false → A) → A
either_way true h k = h refl
either_way false h k = k refl

pub both_true : (a b : Bool) → (a && b) ≡ true → (a ≡ true) × (b ≡ true)
both_true a b = (and-eq-true_iff a b).0

pub and_both : (a b : Bool) → a ≡ true → b ≡ true → (a && b) ≡ true
and_both a b e f = rw e f

pub and_not : (a b : Bool) → a ≡ false → (a && b) ≡ false
and_not a b e = rw e
