-- The entry: refused in the order of the refusals, or passed and loaded.
use mathlib.Core.Path.{◌≡◌, refl, sym, ap, subst, ◌∙◌}
use mathlib.Core.Bool.{Bool, true, false, not}
use mathlib.Core.List.{List}
use Prim.Native.Nat.{ℕ, ◌≤◌, ◌<◌}
use native.Mathlib.Omega.{arith}
use lib.ListN.{length, take, replicate, length-replicate}
use lib.Seq.{length-take-le, get_or-take}
use borrow.Author.Tests.{not-true, not-false}
use Rattle.model.specs.Values.{places}
use Rattle.model.specs.Programs.{Program, within_limits}
use Rattle.model.specs.Stores.{Stores}
use Rattle.model.specs.Emission.{written}
use Rattle.model.specs.Loading.{laid, counts_for, room_for, LoadRes, load_judged, load_of}
use Rattle.image_judge.specs.declared.Sizes.{Sizes}
use Rattle.image_judge.specs.Links.{SizesOf, JudgePost, refused}
use Rattle.image_codes.specs.Links.{Ready}
use Rattle.layout.proofs.Parts.{one_word}
use Rattle.image_load.proofs.Loads.{fine_one, judged_not, judged_is}
use Rattle.check_rules.specs.declared.Rule.{Rule}
use Rattle.check_rules.specs.Checks.{HeightsOf, CheckAs, not_an_image, no_place_lem, past_a_limit, no_room, breaks, passes}
use Rattle.check_image.specs.Links.{GreatestBelow, AllKept, FindingPost, Kept, Unkept, RulesSay, RulesPost}
use Rattle.check_image.proofs.Judged.{few_functions}
use Rattle.std.specs.Prelude.{Err, IsErrAnd, MatchResult, Ok, Result}
use Rattle.image_judge.specs.declared.Broken.{Broken}
use Rattle.model.specs.declared.Counts.{Counts}
use Rattle.model.specs.declared.Refusal.{Refusal}
use Rattle.check_rules.specs.declared.Rejected.{Rejected}
use Rattle.model.specs.declared.Refusal.TheVariants as why
use Rattle.check_rules.specs.declared.Rejected.TheVariants as no
use Rattle.image_judge.specs.declared.Broken.TheVariants.{At}

-- the first n heights are those of n functions
all_heights : (p : Program) (hs : List ℕ) → length p.functions ≤ length hs → GreatestBelow p (length p.functions) hs → {n : ℕ} → n ≡ length p.functions
    → HeightsOf p (take n hs)
all_heights p hs room g {n} e = record {
  many = length-take-le n hs (omega arith) ∙ e;
  greatest = λ f k. rw (get_or-take n hs f 0 (let y : f < n = omega arith in y)) (g f k);
}

-- ---- the rules, and the heights put

pub zeros : (l : List ℕ) → l ≡ replicate 65536 0 → length l ≡ 65536
zeros l e = ap length e ∙ length-replicate {A = ℕ} 65536 0

module _ {image : List ℕ} {z : Sizes} (h : Ready image z) (hs : List ℕ) (long : length hs ≡ 65536) where
  pub heights_there : z.functions ≤ length hs
  heights_there = let few = few_functions h in omega arith

  pub as_many_taken : z.functions ≡ length (take z.functions hs)
  as_many_taken = sym (length-take-le z.functions hs heights_there)

  pub rules_kept : FindingPost image (Ok tt) hs → {before after : List ℕ} → after ≡ written before 0 (take z.functions hs) → RulesPost image before (Ok tt) after
  rules_kept found {before} {after} put =
      let p = h.says.program in
      let kept : AllKept p hs = found.finds p h.says.judged in
      let many = h.says.sizes.functions in
      let room : length p.functions ≤ length hs = let r = heights_there in omega arith in
      let here : Kept p before after =
      record { passed = kept.passed; heights = take z.functions hs; each = all_heights p hs room kept.greatest many; put = put } in
      record { says = λ q k. subst (λ (y : Program). Kept y before after) (fine_one h.says.judged k) here }

-- what `judge` told, by what it is rewritten to: m
module _ {m : Result Sizes Rejected} (Q : Broken → Rejected → Type 0) where
  pub was_fine : (r : Result Sizes Broken) → MatchResult r (λ x. m ≡ Ok x) (λ b. IsErrAnd m (Q b)) → {z : Sizes} → m ≡ Ok z → r ≡ Ok z
  was_fine (Ok x) h {z} e = let same : x ≡ z = cc in ap Ok same
  was_fine (Err b) h e = absurd (rw e at h)

  was_broken : (r : Result Sizes Broken) → MatchResult r (λ x. m ≡ Ok x) (λ b. IsErrAnd m (Q b)) → {d : Rejected} → m ≡ Err d → (b : Broken) × (r ≡ Err b) × Q b d
  was_broken (Ok x) h e = absurd (let z : ◌≡◌ {A = ℕ} 0 1 = cc in let y : ⊥ = omega arith in y)
  was_broken (Err b) h e = (b, refl, rw e at h)

module _ (image heights : List ℕ) {r : Result Sizes Broken} (post : JudgePost image r) where
  refused_as : {s : Stores} (b : Broken) → r ≡ Err b → CheckAs image heights s (Err (no.Refused (refused b))) heights s
  refused_as (At o) e = not_an_image (judged_not image r post o e)

  pub is_no_image : {s : Stores} {m : Result Sizes Rejected} (Q : Broken → Rejected → Type 0) → ((b : Broken) (d : Rejected) → Q b d → d ≡ no.Refused (refused b))
      → MatchResult r (λ x. m ≡ Ok x) (λ b. IsErrAnd m (Q b)) → {d : Rejected} → m ≡ Err d → CheckAs image heights s (Err d) heights s
  is_no_image Q q h {d} e = let w = was_broken Q r h e in rw (q w.0 d w.2) (refused_as w.0 w.1)

  module _ {z : Sizes} (e : r ≡ Ok z) {room : ℕ} (roomy : room ≡ places 1 heights) where
    abbrev p : Program
    p = (judged_is image r post z e).program

    many : z.functions ≡ length p.functions
    many = (judged_is image r post z e).sizes.functions

    pub too_few_places : {s : Stores} → room < z.functions → CheckAs image heights s (Err (no.Refused why.ResultTooShort)) heights s
    too_few_places lt = let m = many in no_place_lem (judged_is image r post z e).judged (omega arith)

    pub places_within : z.functions ≤ room → z.functions ≤ length heights
    places_within enough = (one_word z.functions heights (let y : z.functions ≤ places 1 heights = omega arith in y)).0

    module _ (enough : z.functions ≤ room) {w : Bool} (tells : (q : Program) → SizesOf q z → w ≡ within_limits q) where
      placed : length p.functions ≤ places 1 heights
      placed = let m = many in omega arith

      limits : w ≡ within_limits p
      limits = tells p (judged_is image r post z e).sizes

      pub too_large : {s : Stores} → not w ≡ true → CheckAs image heights s (Err (no.Refused why.OverLimit)) heights s
      too_large a = past_a_limit (judged_is image r post z e).judged placed (sym limits ∙ not-true _ a)

      module _ (a : not w ≡ false) where
        within : within_limits p ≡ true
        within = sym limits ∙ not-false _ a

        pub ready : Ready image z
        ready = record { says = judged_is image r post z e; within = within }

        module _ (s : Stores) {f : Bool} (holds : (q : Program) → SizesOf q z → f ≡ room_for q s) where
          stores : f ≡ room_for p s
          stores = holds p (judged_is image r post z e).sizes

          pub too_little_room : not f ≡ true → CheckAs image heights s (Err (no.Refused why.StoreFull)) heights s
          too_little_room b = no_room (judged_is image r post z e).judged placed within (sym stores ∙ not-true _ b)

          module _ (b : not f ≡ false) where
            fits : room_for p s ≡ true
            fits = sym stores ∙ not-false _ b

            pub a_rule_is_broken : {x : Result Unit (Rule × ℕ)} {after : List ℕ} → RulesPost image heights x after → {q : Rule} {g : ℕ} → x ≡ Err (q, g) → CheckAs image heights s (Err (no.Breaks q g)) after s
            a_rule_is_broken {x} {after} found {q} {g} is =
                let known = (judged_is image r post z e).judged in
                let said : Unkept p q g heights after = subst (λ (y : Result Unit (Rule × ℕ)). RulesSay p y heights after) is (found.says p known) in
                rw said.same (breaks known placed within fits said.broken)

            -- what keeps the rules is loaded
            loads : load_of image s ≡ record { answer = Ok (counts_for p); stores = laid p s }
            unfolding load_of load_judged
            loads = rw ((judged_is image r post z e).judged, within, fits)

            pub all_is_passed : {x : Result Unit (Rule × ℕ)} {after : List ℕ} → RulesPost image heights x after → x ≡ Ok tt → {answer : Result Counts Refusal} {s' : Stores}
                → record { answer = answer; stores = s' } ≡ load_of image s → {told : Result Counts Rejected} (Q : Refusal → Type 0)
                → MatchResult answer (λ k. told ≡ Ok k) Q → CheckAs image heights s told after s'
            all_is_passed {x} {after} found nothing {answer} {s'} loaded {told} Q tells =
                let known = (judged_is image r post z e).judged in
                let said : Kept p heights after = subst (λ (y : Result Unit (Rule × ℕ)). RulesSay p y heights after) nothing (found.says p known) in
                let same_answer : answer ≡ Ok (counts_for p) = ap (λ (y : LoadRes). y.answer) (loaded ∙ loads) in
                let left : laid p s ≡ s' = sym (ap (λ (y : LoadRes). y.stores) (loaded ∙ loads)) in
                let passed : told ≡ Ok (counts_for p) = rw same_answer at tells in
                rw (passed, said.put, ← left) (passes known placed within fits said.passed said.each)
