-- The line with its notes, which are put over the newline of the listing's line.
use mathlib.Core.Path.{◌≡◌, refl, sym, ap, ◌∙◌}
use mathlib.Core.List.{List, [], ◌∷◌, ◌++◌, append_assoc}
use Prim.Native.Nat.{ℕ, suc, ◌+◌, ◌-◌, ◌*◌, ◌≤◌, ◌<◌}
use native.Mathlib.Omega.{arith}
use lib.ListN.{length, get_or, length-append}
use lib.Seq.{set-set}
use Rattle.model.specs.Basics.{ascii}
use Rattle.model.specs.Opcodes.{operands}
use Rattle.model.specs.Programs.{opcode_in, next_in}
use Rattle.model.specs.Listings.{decimal, digits_or_more, padded_to, operands_from, line_of}
use Rattle.model.specs.Emission.{written}
use Rattle.printing.specs.Links.{Put}
use Rattle.printing.proofs.Puts.{written_both, is, within, both}
use Rattle.notes.specs.Notes.{Known, note, operand_notes, place_note, but_last, noted_line}
use Rattle.notes_lines.proofs.Named.{at_most_3}

pub place_noted : (places : List ℕ) (i p : ℕ) → p ≡ get_or places i 0 → {s₀ s₁ : List ℕ} {i₀ i₁ : ℕ}
    → Put 30 (ascii "  ; place " ++ decimal p) s₀ i₀ s₁ i₁ → Put 30 (place_note places i) s₀ i₀ s₁ i₁
unfolding place_note note ascii
place_noted places i p e q = rw (← e) q

-- ---- a text put over the last byte of another

over : (s : List ℕ) (j x y : ℕ) (t : List ℕ) → written (written s j (x ∷ [])) j (y ∷ t) ≡ written s j (y ∷ t)
unfolding written
over s j x y t = rw set-set

over_last : (l : List ℕ) (x : ℕ) (t : List ℕ) → 1 ≤ length t → {k m : ℕ} {s : List ℕ} {i : ℕ} {s' : List ℕ} {r : ℕ} {u : List ℕ} {q : ℕ}
    → Put k (l ++ (x ∷ [])) s i s' (r + 1) → Put m t s' r u q → Put (k + m) (l ++ t) s i u q
over_last l x [] h p w = absurd (let z : ⊥ = omega arith in z)
over_last l x (y ∷ t) h {s = s} {i} {r = r} p w =
    let a : length (l ++ (x ∷ [])) ≡ length l + 1 = length-append l (x ∷ []) in
    let b : length (l ++ (y ∷ t)) ≡ length l + suc (length t) = length-append l (y ∷ t) in
    let e = p.next in
    let f = w.next in
    let n = p.near in
    let o = w.near in
    let z : r ≡ i + length l = omega arith in
    record {
      stored = w.stored ∙ rw (z, p.stored, ← (written_both s i l (x ∷ [])), over (written s i l) (i + length l) x y t) (written_both s i l (y ∷ t));
      next = omega arith;
      near = omega arith;
    }

-- ---- the line

but_last_lem : (l : List ℕ) (x : ℕ) → but_last (l ++ (x ∷ [])) ≡ l
unfolding but_last
but_last_lem [] x = refl
but_last_lem (y ∷ []) x = refl
but_last_lem (y ∷ (z ∷ l)) x = ap (λ (m : List ℕ). y ∷ m) (but_last_lem (z ∷ l) x)

ends_in : (line l : List ℕ) (x : ℕ) → line ≡ l ++ (x ∷ []) → line ≡ but_last line ++ (x ∷ [])
ends_in line l x e = e ∙ ap (λ (m : List ℕ). m ++ (x ∷ [])) (sym (ap but_last e ∙ but_last_lem l x))

line_ends : (code : List ℕ) (i : ℕ) → line_of code i ≡ but_last (line_of code i) ++ (10 ∷ [])
unfolding line_of ascii
line_ends code i =
    ends_in (line_of code i) (ascii "  " ++ digits_or_more 4 i ++ (32 ∷ padded_to 13 (opcode_in code i).name) ++ (32 ∷ operands_from (operands (opcode_in code i)) code (suc i))) 10 refl

regroup : (a b c d : List ℕ) → a ++ (b ++ c ++ d) ≡ a ++ b ++ c ++ d
regroup a b c d = simp append_assoc

-- ---- the listing's line, put with its newline

module _ (code : List ℕ) (i : ℕ) {s : List ℕ} {at : ℕ} {s' : List ℕ} {r : ℕ} (p : Put (64 + 21 * operands (opcode_in code i)) (line_of code i) s at s' r) where
  pub newline_there : 1 ≤ r
  newline_there =
      let e = p.next in
      let l : length (line_of code i) ≡ length (but_last (line_of code i)) + 1 = ap length (line_ends code i) ∙ length-append (but_last (line_of code i)) (10 ∷ []) in
      omega arith

  pub listed_is : get_or code i 0 < 256 → Put 127 (line_of code i) s at s' (r - 1 + 1)
  listed_is h =
      let few = at_most_3 (get_or code i 0) h in
      let there = newline_there in
      let z : r - 1 + 1 ≡ r = omega arith in
      rw z (within p 127 (omega arith))

-- ---- the notes behind it

module _ (known : Known) (code places : List ℕ) (i : ℕ) {s₀ s₁ s₂ s₃ s₄ : List ℕ} {i₀ i₁ i₂ i₃ i₄ : ℕ} where
  pub noted_line_is : Put 127 (line_of code i) s₀ i₀ s₁ (i₁ + 1) → Put 96 (operand_notes known (next_in code i) (opcode_in code i).names code (suc i)) s₁ i₁ s₂ i₂
      → Put 30 (place_note places i) s₂ i₂ s₃ i₃ → Put 1 (10 ∷ []) s₃ i₃ s₄ i₄ → Put 256 (noted_line known code places i) s₀ i₀ s₄ i₄
  unfolding noted_line ascii
  noted_line_is p q r t =
      let l = but_last (line_of code i) in
      let notes = operand_notes known (next_in code i) (opcode_in code i).names code (suc i) in
      let some : length (notes ++ place_note places i ++ (10 ∷ [])) ≡ length (notes ++ place_note places i) + 1 = length-append (notes ++ place_note places i) (10 ∷ []) in
      within (is (over_last l 10 (notes ++ place_note places i ++ (10 ∷ [])) (omega arith) (is p (line_ends code i)) (both (both q r) t)) (regroup l notes (place_note places i) (10 ∷ [])))
      256 (omega arith)
