-- Lines put into a store from its start on, and read off again.
use mathlib.Core.Path.{◌≡◌, refl, sym, ap, ◌∙◌}
use mathlib.Core.Bool.{Bool}
use mathlib.Core.List.{List, ◌++◌, append_assoc}
use Prim.Native.Nat.{ℕ, ◌+◌, ◌≤◌}
use native.Mathlib.Omega.{arith}
use lib.ListN.{length, take, drop}
use lib.Seq.{take-append_seam, sets-eq}
use Rattle.model.specs.declared.Counts.{Counts}
use Rattle.model.specs.Answers.{refusal_number}
use Rattle.model.specs.Basics.{ascii}
use Rattle.model.specs.Equality.{same_bytes}
use Rattle.model.specs.Listings.{decimal}
use Rattle.model.specs.Emission.{written}
use Rattle.model.specs.Reports.{refused_line}
use Rattle.printing.specs.Links.{Put}
use Rattle.printing.proofs.Puts.{is, within, both}
use Rattle.replay_judge.specs.Compared.{field, breach, loaded, load_text}
use Rattle.std.specs.Prelude.{Err, Ok, Result}
use Rattle.model.specs.declared.Refusal.{Refusal}
use Rattle.model.specs.declared.Refusal.TheVariants as why

-- ---- the pieces of a line

pub loaded_is : (c : Counts) {s₀ s₁ s₂ s₃ s₄ : List ℕ} {i₀ i₁ i₂ i₃ i₄ : ℕ}
    → Put 27 (ascii "loaded " ++ decimal c.constants) s₀ i₀ s₁ i₁ → Put 21 (ascii " " ++ decimal c.structs) s₁ i₁ s₂ i₂
    → Put 21 (ascii " " ++ decimal c.functions) s₂ i₂ s₃ i₃ → Put 22 (ascii " " ++ decimal c.text ++ ascii "\n") s₃ i₃ s₄ i₄ → Put 96 (loaded c) s₀ i₀ s₄ i₄
unfolding loaded field ascii
loaded_is c p₁ p₂ p₃ p₄ =
    let front = ascii "loaded" ++ field c.constants ++ field c.structs ++ field c.functions in
    within (is (both (both (both p₁ p₂) p₃) p₄) (sym (append_assoc front (field c.text) (ascii "\n")))) 96 (omega arith)

pub line_done : {a : Result Counts Refusal} {c : Counts} {s s' : List ℕ} {i r : ℕ} → a ≡ Ok c → Put 96 (loaded c) s i s' r → Put 96 (load_text a) s i s' r
unfolding load_text
line_done e p = rw e p

by_number : (e : Refusal) → ((o : ℕ) → e ≡ why.BrokenImage o → ⊥) → load_text (Err e) ≡ refused_line (refusal_number e)
unfolding load_text
by_number (why.BrokenImage o) d = absurd (d o refl)
by_number e d = refl

module _ (e : Refusal) {s s' : List ℕ} {i r : ℕ} where
  pub line_broken : {o : ℕ} → e ≡ why.BrokenImage o → Put 32 (ascii "refused 20 " ++ decimal o ++ ascii "\n") s i s' r → Put 96 (load_text (Err e)) s i s' r
  unfolding load_text breach field ascii
  line_broken q p = rw q (within p 96 (omega arith))

  pub line_refused : ((o : ℕ) → e ≡ why.BrokenImage o → ⊥) → {n : ℕ} → n ≡ refusal_number e → Put 29 (ascii "refused " ++ decimal n ++ ascii "\n") s i s' r → Put 96 (load_text (Err e)) s i s' r
  unfolding refused_line
  line_refused d q p = rw (by_number e d) (within (rw q at p) 96 (omega arith))

-- ---- reading off

whole : {k : ℕ} {l s s' : List ℕ} {n : ℕ} → Put k l s 0 s' n → k ≤ length s → take n s' ≡ l
unfolding written
whole {l = l} {s = s} {n = n} p h =
    let a = p.near in
    let b = p.next in
    let z : 0 + length l ≤ length s = omega arith in
    let e : n ≡ length l = omega arith in
    rw (p.stored, e, sets-eq l s 0 z) (take-append_seam l (drop (0 + length l) s))

pub same_line : {k : ℕ} {l s s' : List ℕ} {n : ℕ} → Put k l s 0 s' n → k ≤ length s → (want : List ℕ) (r : Bool) → r ≡ same_bytes (take n s') want → r ≡ same_bytes l want
same_line p h want r e = e ∙ ap (λ (x : List ℕ). same_bytes x want) (whole p h)
