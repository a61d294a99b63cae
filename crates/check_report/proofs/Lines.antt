-- The checker's lines, put one behind the other.
use mathlib.Core.Path.{◌≡◌, refl, sym, ap, ◌∙◌}
use mathlib.Core.List.{List, ◌++◌, append_assoc, append-nil}
use Prim.Native.Nat.{ℕ, zero, suc, ◌+◌, ◌*◌, ◌≤◌, ◌<◌}
use native.Mathlib.Omega.{arith}
use native.Mathlib.Numerals.{add-one}
use lib.ListN.{length, get_or}
use Rattle.model.specs.declared.Counts.{Counts}
use Rattle.model.specs.Basics.{ascii}
use Rattle.model.specs.Listings.{decimal}
use Rattle.model.specs.Reports.{refused_line}
use Rattle.model.specs.Answers.{refusal_number}
use Rattle.model.specs.declared.Refusal.{Refusal}
use Rattle.check_rules.specs.declared.Rule.{Rule}
use Rattle.check_rules.specs.Rules.{rule_number}
use Rattle.printing.specs.Links.{Put}
use Rattle.printing.proofs.Puts.{is, within, both, nothing}
use Rattle.check_report.specs.Texts.{height_line, height_lines, broken_line, breach_line, refused_facts, facts_text, broken_words, breach_words, rule_words, refused_words, words_text, checked_text}
use Rattle.check_report.specs.Links.{Tellable}
use Rattle.std.specs.Prelude.{Err, Ok, Result}
use Rattle.check_rules.specs.declared.Rejected.{Rejected}
use Rattle.model.specs.declared.Refusal.TheVariants as why
use Rattle.check_rules.specs.declared.Rejected.TheVariants as no

-- ---- one line

module _ {s₀ s₁ s₂ : List ℕ} {i₀ i₁ i₂ : ℕ} where
  pub height_is : (f h : ℕ) → Put 27 (ascii "height " ++ decimal f) s₀ i₀ s₁ i₁ → Put 22 (ascii " " ++ decimal h ++ ascii "\n") s₁ i₁ s₂ i₂ → Put 64 (height_line f h) s₀ i₀ s₂ i₂
  unfolding height_line ascii
  height_is f h a b = within (is (both a b) (simp append_assoc)) 64 (omega arith)

  pub breach_is : (q : Rule) (f : ℕ) {n : ℕ} → n ≡ rule_number q → Put 36 (ascii "refused 40 rule " ++ decimal n) s₀ i₀ s₁ i₁
      → Put 31 (ascii " function " ++ decimal f ++ ascii "\n") s₁ i₁ s₂ i₂ → Put 67 (breach_line q f) s₀ i₀ s₂ i₂
  unfolding breach_line ascii
  breach_is q f e a b = let d = rw e at a in is (both d b) (simp append_assoc)

  pub broken_words_lem : (i : ℕ) (said : List ℕ) {s₃ s₄ : List ℕ} {i₃ i₄ : ℕ} → Put 68 (ascii "the bytes are no rule image: the item at offset " ++ decimal i) s₀ i₀ s₁ i₁
      → Put 14 (ascii " breaks a rule") s₁ i₁ s₂ i₂ → Put (length said) said s₂ i₂ s₃ i₃ → Put 1 (ascii "\n") s₃ i₃ s₄ i₄
      → Put (128 + length said) (broken_words i said) s₀ i₀ s₄ i₄
  unfolding broken_words
  broken_words_lem i said a b d e = within (is (both (both (both a b) d) e) (simp append_assoc)) (128 + length said) (omega arith)

  pub breach_words_lem : (q : Rule) (f : ℕ) (said : List ℕ) {s₃ s₄ : List ℕ} {i₃ i₄ : ℕ} → Put 29 (ascii "function " ++ decimal f) s₀ i₀ s₁ i₁
      → Put (length said) said s₁ i₁ s₂ i₂ → Put 2 (ascii ": ") s₂ i₂ s₃ i₃ → Put 96 (rule_words q) s₃ i₃ s₄ i₄ → Put (128 + length said) (breach_words q f said) s₀ i₀ s₄ i₄
  unfolding breach_words
  breach_words_lem q f said a b d e = within (is (both (both (both a b) d) e) (simp append_assoc)) (128 + length said) (omega arith)

-- ---- the heights

lines_more : (n f : ℕ) (hs : List ℕ) → height_lines (suc n) f hs ≡ height_lines n f hs ++ height_line (f + n) (get_or hs (f + n) 0)
unfolding height_lines
lines_more zero f hs = let z : f + 0 ≡ f = omega arith in rw z (append-nil (height_line f (get_or hs f 0)))
lines_more (suc n) f hs =
    let z : f + suc n ≡ suc f + n = omega arith in
    let own = height_line f (get_or hs f 0) in
    let last = height_line (suc f + n) (get_or hs (suc f + n) 0) in
    rw z (ap (λ (l : List ℕ). own ++ l) (lines_more n (suc f) hs) ∙ sym (append_assoc own (height_lines n (suc f) hs) last))

-- the lines of the first f of n functions were put
pub record Told (n : ℕ) (hs s : List ℕ) (at : ℕ) (s' : List ℕ) (f j : ℕ) : Type 0 where
  pub so_far : f ≤ n
  pub put : Put (64 * f) (height_lines f 0 hs) s at s' j

pub none_told : (n : ℕ) (hs s : List ℕ) (at : ℕ) → Told n hs s at s 0 at
unfolding height_lines
none_told n hs s at = record { so_far = omega arith; put = nothing s at }

module _ {n : ℕ} {hs s : List ℕ} {at : ℕ} {s' : List ℕ} {f j : ℕ} (h : Told n hs s at s' f j) where
  pub one_more : f < n → {t : List ℕ} {k : ℕ} → Put 64 (height_line f (get_or hs f 0)) s' j t k → Told n hs s at t (f + 1) k
  one_more l p =
      let z : 0 + f ≡ f = omega arith in
      let e : height_lines (suc f) 0 hs ≡ height_lines f 0 hs ++ height_line f (get_or hs f 0) = rw z at (lines_more f 0 hs) in
      record { so_far = omega arith; put = within (is (both h.put p) (sym (rw (add-one f) e))) (64 * (f + 1)) (omega arith) }

  pub all_told : n ≤ f → Put (64 * n) (height_lines n 0 hs) s at s' j
  all_told l = let z : f ≡ n = (let y = h.so_far in omega arith) in rw z at h.put

-- ---- an answer's facts

pub heights_inside : {a : Result Counts Rejected} {hs : List ℕ} → Tellable a hs → {k : Counts} → a ≡ Ok k → k.functions ≤ length hs
heights_inside h e = rw e at h.inside

module _ (hs : List ℕ) {a : Result Counts Rejected} {s₀ s₁ : List ℕ} {i₁ : ℕ} where
  pub passed_facts : {k : Counts} → a ≡ Ok k → k.functions ≤ length hs → {s₂ : List ℕ} {i₂ : ℕ} → Put 7 (ascii "passed\n") s₀ 0 s₁ i₁
      → Put (64 * k.functions) (height_lines k.functions 0 hs) s₁ i₁ s₂ i₂ → Put (96 + 64 * length hs) (facts_text a hs) s₀ 0 s₂ i₂
  unfolding facts_text
  passed_facts e h p q = rw e (within (both p q) (96 + 64 * length hs) (omega arith))

  pub refused_facts_lem : {e : Refusal} → a ≡ Err (no.Refused e) → Put 96 (refused_facts e) s₀ 0 s₁ i₁ → Put (96 + 64 * length hs) (facts_text a hs) s₀ 0 s₁ i₁
  unfolding facts_text
  refused_facts_lem e p = rw e (within p (96 + 64 * length hs) (omega arith))

  pub breach_facts : {q : Rule} {f : ℕ} → a ≡ Err (no.Breaks q f) → Put 67 (breach_line q f) s₀ 0 s₁ i₁ → Put (96 + 64 * length hs) (facts_text a hs) s₀ 0 s₁ i₁
  unfolding facts_text
  breach_facts e p = rw e (within p (96 + 64 * length hs) (omega arith))

-- ---- an answer's words

module _ {s s' : List ℕ} {i r : ℕ} where
  pub rule_is : {k : ℕ} {q w : Rule} → q ≡ w → k ≤ 96 → Put k (rule_words w) s i s' r → Put 96 (rule_words q) s i s' r
  rule_is e h p = rw e (within p 96 h)

  module _ {a : Result Counts Rejected} (said : List ℕ) where
    pub refused_told_lem : {e : Refusal} → a ≡ Err (no.Refused e) → Put (128 + length said) (refused_words e said) s i s' r → Put (128 + length said) (words_text a said) s i s' r
    unfolding words_text
    refused_told_lem e p = rw e p

    pub breach_told : {q : Rule} {f : ℕ} → a ≡ Err (no.Breaks q f) → Put (128 + length said) (breach_words q f said) s i s' r → Put (128 + length said) (words_text a said) s i s' r
    unfolding words_text
    breach_told e p = rw e p

pub checked_is : (a : Result Counts Rejected) (said hs : List ℕ) {s₀ s₁ s₂ : List ℕ} {i₁ i₂ : ℕ} → Put (96 + 64 * length hs) (facts_text a hs) s₀ 0 s₁ i₁
    → Put (128 + length said) (words_text a said) s₁ i₁ s₂ i₂ → length said ≤ 384 → Put (608 + 64 * length hs) (checked_text a said hs) s₀ 0 s₂ i₂
unfolding checked_text
checked_is a said hs p q h = within (both p q) (608 + 64 * length hs) (omega arith)

pub passed_told : (s : List ℕ) (i : ℕ) {a : Result Counts Rejected} (said : List ℕ) {k : Counts} → a ≡ Ok k → Put (128 + length said) (words_text a said) s i s i
unfolding words_text
passed_told s i said e = rw e (within (nothing s i) (128 + length said) (omega arith))

-- ---- a refusal before the rules are looked at

by_number : (e : Refusal) → ((i : ℕ) → e ≡ why.BrokenImage i → ⊥) → refused_facts e ≡ refused_line (refusal_number e)
unfolding refused_facts
by_number (why.BrokenImage i) d = absurd (d i refl)
by_number e d = refl

past_limits_words : (said : List ℕ) (e : Refusal) → ((i : ℕ) → e ≡ why.BrokenImage i → ⊥) → (e ≡ why.ResultTooShort → ⊥) → (e ≡ why.StoreFull → ⊥)
    → refused_words e said ≡ ascii "the image is longer than 16,384 bytes, or has more than the limits allow\n"
unfolding refused_words
past_limits_words said (why.BrokenImage i) d f g = absurd (d i refl)
past_limits_words said why.ResultTooShort d f g = absurd (f refl)
past_limits_words said why.StoreFull d f g = absurd (g refl)
past_limits_words said e d f g = refl

module _ (e : Refusal) {s s' : List ℕ} {r : ℕ} where
  pub broken_facts : {i : ℕ} → e ≡ why.BrokenImage i → Put 35 (ascii "refused 20 at " ++ decimal i ++ ascii "\n") s 0 s' r → Put 96 (refused_facts e) s 0 s' r
  unfolding refused_facts broken_line
  broken_facts q p = rw q (within p 96 (omega arith))

  pub number_facts : ((i : ℕ) → e ≡ why.BrokenImage i → ⊥) → {n : ℕ} → n ≡ refusal_number e → Put 29 (ascii "refused " ++ decimal n ++ ascii "\n") s 0 s' r → Put 96 (refused_facts e) s 0 s' r
  unfolding refused_line
  number_facts d q p = rw (by_number e d) (within (rw q at p) 96 (omega arith))

module _ (said : List ℕ) (e : Refusal) {s s' : List ℕ} {i r : ℕ} where
  pub broken_told : {o : ℕ} → e ≡ why.BrokenImage o → Put (128 + length said) (broken_words o said) s i s' r → Put (128 + length said) (refused_words e said) s i s' r
  unfolding refused_words
  broken_told q p = rw q p

  pub few_places : e ≡ why.ResultTooShort → Put 38 (ascii "the image has more than 256 functions\n") s i s' r → Put (128 + length said) (refused_words e said) s i s' r
  unfolding refused_words
  few_places q p = rw q (within p (128 + length said) (omega arith))

  pub too_short : e ≡ why.StoreFull → Put 89 (ascii "the image has more than the programs' stores hold; a host with larger stores may pass it\n") s i s' r
      → Put (128 + length said) (refused_words e said) s i s' r
  unfolding refused_words
  too_short q p = rw q (within p (128 + length said) (omega arith))

  pub past_limits : ((i : ℕ) → e ≡ why.BrokenImage i → ⊥) → (e ≡ why.ResultTooShort → ⊥) → (e ≡ why.StoreFull → ⊥)
      → Put 73 (ascii "the image is longer than 16,384 bytes, or has more than the limits allow\n") s i s' r → Put (128 + length said) (refused_words e said) s i s' r
  past_limits d f g p = rw (past_limits_words said e d f g) (within p (128 + length said) (omega arith))
