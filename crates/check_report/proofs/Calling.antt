-- A Call that is looked for in the stores of a program, function by function; and the two that are told of the rule of counts.
use mathlib.Core.Path.{◌≡◌, sym, ap, ◌∙◌}
use mathlib.Core.Bool.{Bool, true, false}
use mathlib.Core.List.{List, ◌++◌, append_assoc}
use Prim.Native.Nat.{ℕ, suc, ◌+◌, ◌-◌, ◌≤◌, ◌<◌, ◌^◌}
use native.Mathlib.Omega.{arith}
use lib.ListN.{length}
use borrow.Author.Tests.{eq-eqb, ne_eqb, lt-ltb, le-ltb}
use Rattle.model.specs.declared.Counts.{Counts}
use Rattle.model.specs.Basics.{ascii}
use Rattle.model.specs.Listings.{decimal}
use Rattle.model.specs.Stores.{Stores, function_in, functions_from, program_in}
use Rattle.listing.specs.Links.{lent}
use Rattle.printing.specs.Links.{Put}
use Rattle.printing.proofs.Puts.{is, within, both, nothing}
use Rattle.check_rules.specs.declared.Rule.{Rule}
use Rattle.check_rules.specs.Rules.{second_at, rule_number}
use Rattle.check_places.specs.declared.CallSite.{CallSite}
use Rattle.check_places.specs.Calls.{call_in, called_at, first_call, count_told, first_of, other_of}
use Rattle.check_places.proofs.TwoCounts.{first_tells_the_count}
use Rattle.check_report.specs.Details.{called_words, counts_words}
use Rattle.check_report.specs.Links.{CalledPost, CountsPost}
use Rattle.std.specs.Prelude.{MatchOption, None, Option, Some}

-- ---- function by function

-- the Call that is to be found is the first in the functions from g on
pub record Seeking (f : ℕ) (any : Bool) (k n : ℕ) (functions main other : List ℕ) (g : ℕ) : Type 0 where
  pub each : (rest : Stores) (text : List ℕ)
      → first_call f any k 0 (functions_from n 0 (lent rest functions text main other)) ≡ first_call f any k g (functions_from (n - g) g (lent rest functions text main other))

module _ (f : ℕ) (any : Bool) (k n : ℕ) (functions main other : List ℕ) where
  pub none_sought : Seeking f any k n functions main other 0
  none_sought = record { each = λ rest text. let all : n - 0 ≡ n = omega arith in rw all }

  module _ {g : ℕ} (t : Seeking f any k n functions main other g) where
    pub none_found : n ≤ g → CalledPost f any k n functions main other None
    unfolding functions_from first_call
    none_found h = record { means = λ rest text. let none : n - g ≡ 0 = omega arith in sym (rw none at (t.each rest text)) }

    module _ (h : g < n) {code : List ℕ} (own : ((rest : Stores) (text : List ℕ) → code ≡ (function_in (lent rest functions text main other) g).code) × (length code < 2 ^ 32))
        {i : ℕ} (e : i ≡ call_in f any k code) where
      -- function g, and those behind it
      in_turn : (rest : Stores) (text : List ℕ) → first_call f any k 0 (functions_from n 0 (lent rest functions text main other))
          ≡ called_at g code i (first_call f any k (suc g) (functions_from (n - suc g) (suc g) (lent rest functions text main other)))
      unfolding functions_from first_call
      in_turn rest text =
          let one : n - g ≡ suc (n - suc g) = omega arith in
          (rw one at (t.each rest text)) ∙ rw (← own.0 rest text, ← e)

      pub one_found : i < length code → {count : ℕ} → (count ≡ second_at code i) × (count < 0x1_0000) → CalledPost f any k n functions main other (Some (record { function = g; position = i; count = count }))
      unfolding called_at
      one_found l c = record { means = λ rest text. sym (in_turn rest text ∙ rw (lt-ltb _ _ l, ← c.0)) }

      pub one_passed_over : length code ≤ i → Seeking f any k n functions main other (g + 1)
      unfolding called_at
      one_passed_over l = record { each = λ rest text. let on : suc g ≡ g + 1 = omega arith in rw (← on) (in_turn rest text ∙ rw (le-ltb _ _ l)) }

-- ---- what is said of it

module _ {x : Option CallSite} {s : List ℕ} {at : ℕ} where
  pub called_put : {c : CallSite} → x ≡ Some c → {s₁ s₂ s₃ : List ℕ} {i₁ i₂ i₃ : ℕ} → Put 27 (ascii ", with " ++ decimal c.count) s at s₁ i₁
      → Put 33 (ascii " by function " ++ decimal c.function) s₁ i₁ s₂ i₂ → Put 24 (ascii " at " ++ decimal c.position) s₂ i₂ s₃ i₃ → Put 84 (called_words x) s at s₃ i₃
  unfolding called_words
  called_put e p q r = rw e (is (both (both p q) r) (simp append_assoc))

  pub called_nowhere : x ≡ None → Put 84 (called_words x) s at s at
  unfolding called_words
  called_nowhere e = rw e (within (nothing s at) 84 (omega arith))

-- the count of a Call, or 0
pub counted : (x : Option CallSite) {k : ℕ} (Q : CallSite → Type 0) → ((d : CallSite) → Q d → k ≡ d.count) → MatchOption x (k ≡ 0) Q → k ≡ count_told x
unfolding count_told
counted (Some d) Q is e = is d e
counted None Q is e = e

module _ (c : Counts) (functions main other : List ℕ) (q : Rule) (f : ℕ) {m : ℕ} (e : m ≡ rule_number q) {s : List ℕ} {at : ℕ} where
  pub no_counts : (m ≡ 4 → ⊥) → CountsPost c functions main other q f s at s at
  unfolding counts_words
  no_counts h = record { says = λ rest text. rw (← e, ne_eqb m 4 h) (within (nothing s at) 168 (omega arith)) }

  pub two_counts : m ≡ 4 → {x : Option CallSite} → CalledPost f true 0 c.functions functions main other x → {k : ℕ} → k ≡ count_told x → {y : Option CallSite}
      → CalledPost f false k c.functions functions main other y → {s₁ s₂ : List ℕ} {i₁ i₂ : ℕ} → Put 84 (called_words x) s at s₁ i₁ → Put 84 (called_words y) s₁ i₁ s₂ i₂
      → CountsPost c functions main other q f s at s₂ i₂
  unfolding counts_words program_in first_of other_of
  two_counts h {x} a {k} t {y} b p r = record {
    says = λ rest text.
        let program = program_in c (lent rest functions text main other) in
        let first : x ≡ first_of program f = a.means rest text in
        let taken = t ∙ ap count_told first ∙ first_tells_the_count program f in
        let other-one : y ≡ other_of program f = b.means rest text ∙ rw taken in
        rw (← e, eq-eqb m 4 h, ← first, ← other-one) (both p r);
  }
