-- The arms of a `match` on a number: a test that is computed at every number of an arm holds of the number that came there.
use mathlib.Core.Bool.{Bool, true, false, ◌&&◌, ◌||◌}
use mathlib.Core.List.{List, [], ◌∷◌}
use mathlib.Core.Logic.{⊎_elim, inl, inr}
use Prim.Native.Nat.{ℕ, zero, suc, ◌+◌, ◌≤◌, ◌<◌}
use native.Mathlib.Nat.{eq-or-lt_of_le}
use native.Mathlib.Omega.{arith}
use lib.Dec.{T}
use lib.Ieee.Fits.{and_l, and_r}
use mir.Val.{has_key}
use types.Run.{OneOf, hit}

or_right : (a b : Bool) → (T a → ⊥) → T (a || b) → T b
or_right true b n t = absurd (n tt)
or_right false b n t = t

module _ (p : ℕ → Bool) where
  -- each of the keys passes
  abbrev pub each : List ℕ → Bool
  each [] = true
  each (k ∷ ks) = p k && each ks

  -- x is one of an arm's keys
  pub keyed : (ks : List ℕ) → T (each ks) → (x : ℕ) → OneOf ks x → T (p x)
  keyed [] t x o = absurd o
  keyed (k ∷ []) t x e = rw e (and_l (p k) true t)
  keyed (k ∷ j ∷ ks) t x (inl e) = rw e (and_l (p k) (each (j ∷ ks)) t)
  keyed (k ∷ j ∷ ks) t x (inr o) = keyed (j ∷ ks) (and_r (p k) (each (j ∷ ks)) t) x o

  -- each of the n numbers from a on passes
  abbrev pub run : ℕ → ℕ → Bool
  run a zero = true
  run a (suc n) = p a && run (suc a) n

  pub within : (a n : ℕ) → T (run a n) → (x : ℕ) → a ≤ x → x < a + n → T (p x)
  within a zero t x l h = absurd (let z : ⊥ = omega arith in z)
  within a (suc n) t x l h =
      ⊎_elim (λ e. rw (← e) (and_l (p a) (run (suc a) n) t))
      (λ m. within (suc a) n (and_r (p a) (run (suc a) n) t) x m (omega arith))
      (eq-or-lt_of_le l)

-- what is known past the arms that have keys, the last of them first: x is none of the keys
abbrev pub Past : List (List ℕ) → ℕ → Type 0
Past [] x = Unit
Past (ks ∷ arms) x = Past arms x × (OneOf ks x → ⊥)

-- x is a key of an arm, or passes
abbrev pub spare : List (List ℕ) → (ℕ → Bool) → ℕ → Bool
spare [] p x = p x
spare (ks ∷ arms) p x = has_key ks x || spare arms p x

no_key : (arms : List (List ℕ)) (p : ℕ → Bool) (x : ℕ) → Past arms x → T (spare arms p x) → T (p x)
no_key [] p x n t = t
no_key (ks ∷ arms) p x n t = no_key arms p x n.0 (or_right (has_key ks x) (spare arms p x) (λ h. n.1 (hit ks x h)) t)

-- x is none of the keys, and one of the n numbers from a on
pub ranged : (p : ℕ → Bool) (arms : List (List ℕ)) (a n : ℕ) → T (run (spare arms p) a n) → (x : ℕ) → Past arms x → a ≤ x → x < a + n → T (p x)
ranged p arms a n t x m l h = no_key arms p x m (within (spare arms p) a n t x l h)
