-- Hex digits, one behind the other.
use mathlib.Core.Path.{◌≡◌, refl}
use mathlib.Core.List.{List, [], ◌∷◌}
use Prim.Native.Nat.{ℕ, zero, suc, ◌+◌, ◌-◌, ◌/◌, ◌%◌, ◌≤◌, ◌<◌}
use native.Mathlib.Omega.{arith}
use borrow.Author.Tests.{lt-ltb, le-ltb}
use Rattle.model.specs.Reports.{hex_digit, hex_for}
use Rattle.printing.specs.Links.{Put}
use Rattle.printing.proofs.Puts.{within, both, nothing}

pub digit_is : (d : ℕ) → d < 10 → 48 + d ≡ hex_digit d
unfolding hex_digit
digit_is d h = rw (lt-ltb d 10 h)

pub letter_is : (d : ℕ) → 10 ≤ d → 55 + d ≡ hex_digit d
unfolding hex_digit
letter_is d h = rw (le-ltb d 10 h)

pub no_hex : (n w : ℕ) → n ≡ 0 → {s : List ℕ} {i : ℕ} → Put n (hex_for n w) s i s i
unfolding hex_for
no_hex zero w e = nothing _ _
no_hex (suc n) w e = absurd (let z : ⊥ = omega arith in z)

pub more_hex : (n w : ℕ) → (n ≡ 0 → ⊥) → (b : ℕ) → b ≡ hex_digit (w % 16) → {s₀ s₁ s₂ : List ℕ} {i₀ i₁ i₂ : ℕ}
    → Put (n - 1) (hex_for (n - 1) (w / 16)) s₀ i₀ s₁ i₁ → Put 1 (b ∷ []) s₁ i₁ s₂ i₂ → Put n (hex_for n w) s₀ i₀ s₂ i₂
unfolding hex_for
more_hex zero w h b e p q = absurd (h refl)
more_hex (suc n) w h b e p q =
    let z : suc n - 1 ≡ n = omega arith in
    within (both (rw z at p) (rw e at q)) (suc n) (omega arith)
