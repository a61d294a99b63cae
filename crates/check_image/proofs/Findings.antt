-- The rules in their order: the first that is broken.
use mathlib.Core.Path.{◌≡◌, refl, sym, subst, ◌∙◌}
use mathlib.Core.List.{List}
use mathlib.Core.Logic.{⊎_elim}
use Prim.Native.Nat.{ℕ, suc, ◌≤◌, ◌<◌}
use native.Mathlib.Omega.{arith}
use native.Mathlib.Nat.{eq-or-lt_of_le}
use lib.ListN.{length, get_or}
use Rattle.model.specs.Programs.{Program}
use Rattle.image_judge.specs.declared.Sizes.{Sizes}
use Rattle.image_codes.specs.Links.{Ready}
use Rattle.image_load.proofs.Loads.{fine_one}
use Rattle.check_rules.specs.declared.Rule.{Rule}
use Rattle.check_rules.specs.declared.Rule.TheVariants as r
use Rattle.check_rules.specs.Rules.{Keeps, rule_number, KeptByAll, Broken}
use Rattle.check_rules.proofs.One.{one_number}
use Rattle.check_image.specs.Links.{Lowest, Tallied, TalliedPost, CountsPost, Measurable, Measured, MeasuredPost}
use Rattle.check_image.specs.Links.{KeptBelow, BelowPost, LinksPost, AllKept, FindingPost}
use Rattle.check_image.proofs.Counting.{entry_keeps, entry_breaks}
use Rattle.std.specs.Prelude.{Err, Ok, Result}

-- ---- the order of the rules

none_earlier : (e : Rule) → rule_number e < 1 → ⊥
unfolding rule_number
none_earlier r.Instructions l = let z : ⊥ = omega arith in z
none_earlier r.Numbers l = let z : ⊥ = omega arith in z
none_earlier r.Calls l = let z : ⊥ = omega arith in z
none_earlier r.Counts l = let z : ⊥ = omega arith in z
none_earlier r.Jumps l = let z : ⊥ = omega arith in z
none_earlier r.Heights l = let z : ⊥ = omega arith in z

at_most_six : (q : Rule) → rule_number q < 7
unfolding rule_number
at_most_six r.Instructions = omega arith
at_most_six r.Numbers = omega arith
at_most_six r.Calls = omega arith
at_most_six r.Counts = omega arith
at_most_six r.Jumps = omega arith
at_most_six r.Heights = omega arith

at_first : (p : Program) → KeptBelow p 1
at_first p = record { kept = λ e l. absurd (none_earlier e l) }

module _ {p : Program} {k : ℕ} (a : KeptBelow p k) (q : Rule) (n : rule_number q ≡ k) where
  one_later : KeptByAll p q → KeptBelow p (suc k)
  one_later all = record {
    kept = λ e l. ⊎_elim (λ (m : rule_number e ≡ k). subst (λ (x : Rule). KeptByAll p x) (one_number q e (n ∙ sym m)) all) (λ m. a.kept e m)
        (eq-or-lt_of_le (let y : rule_number e ≤ k = omega arith in y));
  }

  module _ {f : ℕ} (low : Lowest (Keeps p q) (length p.functions) f) where
    kept_by_all : length p.functions ≤ f → KeptByAll p q
    kept_by_all l = λ g m. low.lower g (omega arith)

    breaks_first : f < length p.functions → Broken p q f
    breaks_first l = record { known = l; earlier = λ e m. a.kept e (omega arith); lower = low.lower; breaks = low.breaks l }

-- ---- what was found, and is told

not_nothing : {x : Rule × ℕ} → ◌≡◌ {A = Result Unit (Rule × ℕ)} (Err x) (Ok tt) → ⊥
not_nothing e = let z : ◌≡◌ {A = ℕ} 0 1 = cc in omega arith

-- a broken rule is told as it was found
as_found : {k : ℕ} {s : List ℕ} {x : Rule × ℕ} → BelowPost k s (Err x) → {hs : List ℕ} → FindingPost s (Err x) hs
as_found {x = (q, f)} b = record { finds = λ p j. b.finds p j }

-- ---- one after the other

module _ (s : List ℕ) (z : Sizes) (h : Ready s z) where
  abbrev p : Program
  p = h.says.program

  many : z.functions ≡ length p.functions
  many = h.says.sizes.functions

  found : (k : ℕ) {q : Rule} {f : ℕ} → Broken p q f → BelowPost k s (Err (q, f))
  found k {q} {f} b = record { finds = λ x e. subst (λ (y : Program). Broken y q f) (fine_one h.says.judged e) b }

  none_found : {k : ℕ} → KeptBelow p k → BelowPost k s (Ok tt)
  none_found {k} a = record { finds = λ x e. subst (λ (y : Program). KeptBelow y k) (fine_one h.says.judged e) a }

  -- before the first rule none is broken
  pub begins : BelowPost 1 s (Ok tt)
  begins = none_found (at_first p)

  so_far : {k : ℕ} → BelowPost k s (Ok tt) → KeptBelow p k
  so_far a = a.finds h.says.program h.says.judged

  -- a rule of its own
  module _ (q : Rule) (a : BelowPost (rule_number q) s (Ok tt)) where
    pub stops_here : {f : ℕ} → Lowest (Keeps p q) (length p.functions) f → f < z.functions → BelowPost (suc (rule_number q)) s (Err (q, f))
    stops_here low l = let e = many in found (suc (rule_number q)) (breaks_first (so_far a) q refl low (omega arith))

    pub goes_on_lem : KeptByAll p q → BelowPost (suc (rule_number q)) s (Ok tt)
    goes_on_lem all = none_found (one_later (so_far a) q refl all)

  -- rules 4 and 5
  module _ (a : BelowPost 4 s (Ok tt)) {counts : List ℕ} (t : TalliedPost s counts) {f : ℕ} (c : CountsPost z.functions counts f) where
    tally : Tallied p counts
    tally = t.tallies h.says.program h.says.judged

    pub counts_stop : f < z.functions → LinksPost s z (Err (r.Counts, f)) counts
    unfolding rule_number
    counts_stop l =
        let m = many in
        record {
          found = found 6 (record {
            known = omega arith;
            earlier = (so_far a).kept;
            lower = λ g k. entry_keeps p counts tally g (c.lowest.lower g k);
            breaks = λ k. c.lowest.breaks l (λ e. entry_breaks p counts tally f e k);
          });
          tally = λ e. absurd (not_nothing e);
        }

    module _ (l : z.functions ≤ f) where
      counts_same : (g : ℕ) → g < length p.functions → get_or counts g 0 ≡ 1 → ⊥
      counts_same g k = let m = many in c.lowest.lower g (omega arith)

      pub counts_go_on : BelowPost 5 s (Ok tt)
      unfolding rule_number
      counts_go_on = none_found (one_later (so_far a) r.Counts refl (λ g k. entry_keeps p counts tally g (counts_same g k)))

      -- where rule 5 is kept as well, so are rules 1, 4 and 5
      pub links_told : {x : Result Unit (Rule × ℕ)} → BelowPost 6 s x → length counts ≡ 65536 → LinksPost s z x counts
      unfolding rule_number
      links_told {x} below room = record {
        found = below;
        tally = λ e.
            let all = so_far (subst (λ (y : Result Unit (Rule × ℕ)). BelowPost 6 s y) e below) in
            record {
              ready = h;
              room = room;
              tallies = tally;
              differ = counts_same;
              whole = all.kept r.Instructions (omega arith);
              landing = all.kept r.Jumps (omega arith);
            };
      }

-- ---- rule 6

module _ {s : List ℕ} {z : Sizes} {counts : List ℕ} (a : LinksPost s z (Ok tt) counts) where
  pub can_be_measured : Measurable s z counts
  can_be_measured = a.tally refl

  module _ {hs : List ℕ} {f : ℕ} (m : MeasuredPost s hs f) where
    ready : Ready s z
    ready = can_be_measured.ready

    measured : Measured (p s z ready) hs f
    measured = m.measures ready.says.program ready.says.judged

    pub heights_stop : f < z.functions → FindingPost s (Err (r.Heights, f)) hs
    unfolding rule_number
    heights_stop l =
        let n = many s z ready in
        as_found (found s z ready 7 (breaks_first (so_far s z ready a.found) r.Heights refl measured.lowest (omega arith)))

    pub nothing_broken : z.functions ≤ f → FindingPost s (Ok tt) hs
    unfolding rule_number
    nothing_broken l =
        let n = many s z ready in
        let below = so_far s z ready a.found in
        let all = one_later below r.Heights refl (kept_by_all below r.Heights refl measured.lowest (omega arith)) in
        record {
          finds = λ x e. subst (λ (y : Program). AllKept y hs) (fine_one ready.says.judged e)
              (record { passed = λ q. all.kept q (at_most_six q); greatest = λ g k. measured.greatest g (omega arith) });
        }
