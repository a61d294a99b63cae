-- As many different numbers below n as there are numbers below n: each number below n is one of them.
use Rattle.std.specs.Prelude.{if◌then◌else◌}
use mathlib.Core.Path.{◌≡◌, sym, ◌∙◌}
use Prim.Native.Nat.{ℕ, zero, suc, ◌<◌}
use native.Mathlib.Omega.{arith}
use native.Mathlib.Numerals.{lt_of_le_of_ne}
use lib.Dec.{eqb}
use borrow.Author.Tests.{eqb-true, eqb-false, eq-eqb, ne_eqb}
use Rattle.laws_names.proofs.Before.{either_way}

-- i is one of the first n numbers
pub record Hit (n : ℕ) (g : ℕ → ℕ) (i : ℕ) : Type 0 where
  pub at : ℕ
  pub within : at < n
  pub is : g at ≡ i

-- the first n numbers are below n and all different
pub record Pigeons (n : ℕ) (g : ℕ → ℕ) : Type 0 where
  pub below : (k : ℕ) → k < n → g k < n
  pub apart : (k l : ℕ) → k < n → l < n → g k ≡ g l → k ≡ l

-- the number at m stands in for m, where one of the others is m
less : ℕ → (ℕ → ℕ) → ℕ → ℕ
less m g k = if eqb (g k) m then g m else g k

module _ (m : ℕ) (g : ℕ → ℕ) (p : Pigeons (suc m) g) where
  less_here : (k : ℕ) → g k ≡ m → less m g k ≡ g m
  unfolding less
  less_here k e = rw (eq-eqb (g k) m e)

  less_other : (k : ℕ) → (g k ≡ m → ⊥) → less m g k ≡ g k
  unfolding less
  less_other k d = rw (ne_eqb (g k) m d)

  not_last : (k : ℕ) → k < m → (g k ≡ g m → ⊥)
  not_last k h e = let z : k ≡ m = p.apart k m (omega arith) (omega arith) e in omega arith

  fewer : Pigeons m (less m g)
  fewer = record {
    below = λ k h.
        either_way (eqb (g k) m)
        (λ t.
        let e : g k ≡ m = eqb-true (g k) m t in
        let q : g m < suc m = p.below m (omega arith) in
        rw (less_here k e) (lt_of_le_of_ne (omega arith) (λ (z : g m ≡ m). not_last k h (e ∙ sym z))))
        (λ f.
        let d : g k ≡ m → ⊥ = eqb-false (g k) m f in
        let q : g k < suc m = p.below k (omega arith) in
        rw (less_other k d) (lt_of_le_of_ne (omega arith) d));
    apart = λ k l hk hl e.
        either_way (eqb (g k) m)
        (λ t.
        let ek : g k ≡ m = eqb-true (g k) m t in
        either_way (eqb (g l) m)
        (λ u. p.apart k l (omega arith) (omega arith) (ek ∙ sym (eqb-true (g l) m u)))
        (λ f. absurd (not_last l hl (sym (less_other l (eqb-false (g l) m f)) ∙ sym e ∙ less_here k ek))))
        (λ f.
        let dk : g k ≡ m → ⊥ = eqb-false (g k) m f in
        either_way (eqb (g l) m)
        (λ u. absurd (not_last k hk (sym (less_other k dk) ∙ e ∙ less_here l (eqb-true (g l) m u))))
        (λ v. p.apart k l (omega arith) (omega arith) (sym (less_other k dk) ∙ e ∙ less_other l (eqb-false (g l) m v))));
  }

pub all_hit : (n : ℕ) (g : ℕ → ℕ) → Pigeons n g → (i : ℕ) → i < n → Hit n g i
all_hit zero g p i h = absurd (let y : ⊥ = omega arith in y)
all_hit (suc m) g p i h =
    either_way (eqb (g m) i)
    (λ t. record { at = m; within = omega arith; is = eqb-true (g m) i t })
    (λ f.
    let d : g m ≡ i → ⊥ = eqb-false (g m) i f in
    either_way (eqb i m)
    (λ t. stands_in (eqb-true i m t) d (all_hit m (less m g) (fewer m g p) (g m)))
    (λ u. direct d (all_hit m (less m g) (fewer m g p) i (lt_of_le_of_ne (omega arith) (eqb-false i m u)))))
  where
    -- i is m itself: whose place g m takes
    stands_in : i ≡ m → (g m ≡ i → ⊥) → (g m < m → Hit m (less m g) (g m)) → Hit (suc m) g i
    stands_in e d again =
        let q : g m < suc m = p.below m (omega arith) in
        let l : g m < m = lt_of_le_of_ne (omega arith) (λ (z : g m ≡ m). d (z ∙ sym e)) in
        let h = again l in
        let w : h.at < m = h.within in
        either_way (eqb (g h.at) m)
        (λ t. record { at = h.at; within = omega arith; is = eqb-true (g h.at) m t ∙ sym e })
        (λ f. absurd (not_last m g p h.at w (sym (less_other m g p h.at (eqb-false (g h.at) m f)) ∙ h.is)))

    direct : (g m ≡ i → ⊥) → Hit m (less m g) i → Hit (suc m) g i
    direct d h =
        let w : h.at < m = h.within in
        either_way (eqb (g h.at) m)
        (λ t. absurd (d (sym (less_here m g p h.at (eqb-true (g h.at) m t)) ∙ h.is)))
        (λ f. record { at = h.at; within = omega arith; is = sym (less_other m g p h.at (eqb-false (g h.at) m f)) ∙ h.is })
