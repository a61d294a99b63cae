-- The pieces of a line and of a header, put one behind the other.
use mathlib.Core.Path.{◌≡◌, refl, ap, ◌∙◌}
use mathlib.Core.List.{List, [], ◌∷◌}
use Prim.Native.Nat.{ℕ, zero, suc, ◌+◌, ◌-◌, ◌*◌}
use native.Mathlib.Omega.{arith}
use native.Mathlib.Numerals.{add-one}
use lib.ListN.{length, get_or}
use Rattle.model.specs.Basics.{ascii}
use Rattle.model.specs.Opcodes.{operands}
use Rattle.model.specs.Programs.{word_at, opcode_in}
use Rattle.model.specs.Listings.{decimal, padded_to, operands_from, line_of, header_line}
use Rattle.printing.specs.Links.{Put}
use Rattle.printing.proofs.Puts.{is, within, both, nothing}
use Rattle.printing.proofs.Digits.{like, plain, four}

pub word_is : (s : List ℕ) (i : ℕ) {a b : ℕ} → a ≡ get_or s i 0 → b ≡ get_or s (i + 1) 0 → a + b * 256 ≡ word_at s i
unfolding word_at
word_is s i e f = rw (e, f, add-one) (omega arith)

-- ---- the operands, the first of them the word w

module _ (code : List ℕ) (i : ℕ) where
  pub no_operands : (n : ℕ) → n ≡ 0 → {s : List ℕ} {at : ℕ} → Put (21 * n) (operands_from n code i) s at s at
  unfolding operands_from
  no_operands zero e = nothing _ _
  no_operands (suc n) e = absurd (let z : ⊥ = omega arith in z)

  module _ (w : ℕ) (e : w ≡ word_at code i) {s : List ℕ} {at : ℕ} {s' : List ℕ} {j : ℕ} (p : Put 20 (like 0 w) s at s' j) where
    number : Put 20 (decimal (word_at code i)) s at s' j
    number = is p (plain w ∙ ap decimal e)

    pub one_operand : (n : ℕ) → n ≡ 1 → Put (21 * n) (operands_from n code i) s at s' j
    unfolding operands_from
    one_operand zero f = absurd (let z : ⊥ = omega arith in z)
    one_operand (suc zero) f = within number 21 (omega arith)
    one_operand (suc (suc n)) f = absurd (let z : ⊥ = omega arith in z)

    pub more_operands : (n : ℕ) → (n ≡ 0 → ⊥) → (n ≡ 1 → ⊥) → {u : List ℕ} {k : ℕ} → Put 1 (32 ∷ []) s' j u k → {v : List ℕ} {r : ℕ}
        → Put (21 * (n - 1)) (operands_from (n - 1) code (i + 2)) u k v r → Put (21 * n) (operands_from n code i) s at v r
    unfolding operands_from
    more_operands zero f g q o = absurd (f refl)
    more_operands (suc zero) f g q o = absurd (g refl)
    more_operands (suc (suc n)) f g q o =
        let z : suc (suc n) - 1 ≡ suc n = omega arith in
        within (both number (both q (rw z at o))) (21 * suc (suc n)) (omega arith)

-- ---- a line

pub line_is : (code : List ℕ) (i n : ℕ) → n ≡ operands (opcode_in code i)
    → {s₀ s₁ s₂ s₃ s₄ s₅ s₆ s₇ : List ℕ} {i₀ i₁ i₂ i₃ i₄ i₅ i₆ i₇ : ℕ}
    → Put 2 (32 ∷ 32 ∷ []) s₀ i₀ s₁ i₁ → Put 20 (like 1000 i) s₁ i₁ s₂ i₂ → Put 1 (32 ∷ []) s₂ i₂ s₃ i₃ → Put 19 (padded_to 13 (opcode_in code i).name) s₃ i₃ s₄ i₄
    → Put 1 (32 ∷ []) s₄ i₄ s₅ i₅ → Put (21 * n) (operands_from n code (i + 1)) s₅ i₅ s₆ i₆ → Put 1 (10 ∷ []) s₆ i₆ s₇ i₇
    → Put (64 + 21 * operands (opcode_in code i)) (line_of code i) s₀ i₀ s₇ i₇
unfolding line_of ascii
line_is code i n e p₁ p₂ p₃ p₄ p₅ p₆ p₇ =
    within (both (both (both (both p₁ (is p₂ (four i))) (both p₃ p₄)) (both p₅ (rw (e, add-one) at p₆))) p₇) (64 + 21 * operands (opcode_in code i)) (omega arith)

-- ---- a header

pub header_is : (i : ℕ) (name : List ℕ) {s₀ s₁ s₂ s₃ s₄ s₅ : List ℕ} {i₀ i₁ i₂ i₃ i₄ i₅ : ℕ}
    → Put 6 (46 ∷ 67 ∷ 79 ∷ 68 ∷ 69 ∷ 32 ∷ []) s₀ i₀ s₁ i₁ → Put 20 (like 0 i) s₁ i₁ s₂ i₂ → Put 2 (32 ∷ 40 ∷ []) s₂ i₂ s₃ i₃
    → Put (length name) name s₃ i₃ s₄ i₄ → Put 2 (41 ∷ 10 ∷ []) s₄ i₄ s₅ i₅ → Put (32 + length name) (header_line i name) s₀ i₀ s₅ i₅
unfolding header_line ascii
header_is i name p₁ p₂ p₃ p₄ p₅ = within (both (both (both (both p₁ (is p₂ (plain i))) p₃) p₄) p₅) (32 + length name) (omega arith)
