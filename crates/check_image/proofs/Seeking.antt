-- What breaks rule 6 in one function of an image: the function is sought, and its code asked.
use mathlib.Core.Path.{◌≡◌, refl, sym, ap, subst, ◌∙◌}
use mathlib.Core.Bool.{Bool, true, false, true≢false, not}
use mathlib.Core.List.{List}
use Prim.Native.Nat.{ℕ, ◌+◌, ◌-◌, ◌≤◌, ◌<◌}
use native.Mathlib.Omega.{arith}
use lib.Dec.{eqb}
use lib.ListN.{length, get_or, take, drop}
use borrow.Author.Tests.{not-true, not-false}
use Rattle.model.specs.Programs.{Program, stands, within_limits}
use Rattle.model.specs.Images.{Judged, fine, broken, judge}
use Rattle.image_judge.specs.declared.Sizes.{Sizes}
use Rattle.image_judge.specs.Links.{SizesOf, JudgePost}
use Rattle.image_codes.specs.declared.Code.{Code}
use Rattle.image_codes.specs.Links.{CodePost, Ready}
use Rattle.image_load.proofs.Loads.{fine_one, judged_not, judged_is}
use Rattle.check_rules.specs.declared.Rule.TheVariants as r
use Rattle.check_rules.specs.Rules.{whole_at, jump_at, every, calls_in, count_of, code_of, is_main, Keeps, rule_number, Broken as BrokenRule}
use Rattle.check_code.proofs.Counting.{other_counts}
use Rattle.check_heights.specs.declared.Flaw.{Flaw}
use Rattle.check_heights.specs.Answer.{HeightsPre, BreaksAt, FlawPost}
use Rattle.check_image.specs.Links.{Tallied, TalliedPost}
use Rattle.check_image.specs.Flaws.{FlawIn, not_an_image, past_a_limit, no_function, no_heights, finds, AskedPost, counts_differ, not_whole, not_landing, asked}
use Rattle.check_image.proofs.Judged.{few_functions, Sofar, program_of, none_yet, its_code, its_size, one_more}
use Rattle.check_image.proofs.Counting.{entry_breaks}
use Rattle.std.specs.Prelude.{Err, IsSomeAnd, None, Ok, Option, Result, Some}
use Rattle.image_judge.specs.declared.Broken.{Broken}
use Rattle.image_judge.specs.declared.Broken.TheVariants.{At}

-- ---- a code

module _ {main : Bool} {entry : ℕ} {code : List ℕ} where
  pub cut_code : {b : Bool} → b ≡ every (whole_at code) (stands code) → not b ≡ true → AskedPost main entry code None
  cut_code e n = not_whole (sym e ∙ not-true _ n)

  pub astray : {b : Bool} → b ≡ every (jump_at main code) (stands code) → not b ≡ true → AskedPost main entry code None
  astray e n = not_landing (sym e ∙ not-true _ n)

  pub may_be_asked : (table table' : List ℕ) {a b : Bool} → a ≡ every (whole_at code) (stands code) → not a ≡ false → b ≡ every (jump_at main code) (stands code) → not b ≡ false
      → length code ≤ 65535 → length code < length table → entry < 65538 → {count : ℕ} → count ≡ entry - 2 → length table' ≡ length table
      → HeightsPre main count code table'
  may_be_asked table table' d m e n short room few told same = record {
    whole = sym d ∙ not-false _ m;
    landing = sym e ∙ not-false _ n;
    few = omega arith;
    codes = short;
    room = omega arith;
  }

  pub it_answers : (entry ≡ 1 → ⊥) → {count : ℕ} → count ≡ entry - 2 → {x : Option Flaw} → FlawPost main count code x → AskedPost main entry code x
  it_answers n told {x} post = asked n (subst (λ (k : ℕ). FlawPost main k code x) told post)

-- ---- the function is sought

-- the functions below g are passed, and the next one stands at the place `at`
pub record Seeking (s : List ℕ) (z : Sizes) (f : ℕ) (before table : List ℕ) (g at : ℕ) : Type 0 where
  pub sofar : (h : Ready s z) → Sofar (λ k. Unit) (program_of h) s g at
  pub ahead : g ≤ f
  pub same : length table ≡ length before

pub seek_starts : (s : List ℕ) (z : Sizes) (f : ℕ) (table : List ℕ) → Seeking s z f table table 0 z.first
seek_starts s z f table = record { sofar = λ h. none_yet _ h; ahead = omega arith; same = refl }

module _ {s : List ℕ} {z : Sizes} {f : ℕ} {before table : List ℕ} {g at : ℕ} (a : Seeking s z f before table g at) where
  pub entry_inside : Ready s z → g < z.functions → (counts : List ℕ) → length counts ≡ 65536 → g < length counts
  entry_inside h l counts e = let few = few_functions h in omega arith

  pub not_there : Ready s z → z.functions ≤ g → FlawIn s f None
  not_there h l = let many = h.says.sizes.functions in no_function h.says.judged (let y = a.ahead in omega arith)

  module _ (l : g < z.functions) {c : Code} (post : CodePost (eqb g 0) s at c) where
    abbrev slice : List ℕ
    slice = take (c.from + c.size - c.from) (drop c.from s)

    pub seek_on : (g ≡ f → ⊥) → Seeking s z f before table (g + 1) c.next
    seek_on n = record { sofar = λ h. one_more _ h (a.sofar h) l post tt; ahead = let y = a.ahead in omega arith; same = a.same }

    module _ (h : Ready s z) {counts : List ℕ} (t : TalliedPost s counts) where
      tallies : Tallied (program_of h) counts
      tallies = t.tallies (program_of h) h.says.judged

      code : code_of (program_of h) g ≡ slice
      code = its_code _ h (a.sofar h) l post

      pub flaw_asked : 65536 ≤ length before → (length slice ≤ 65535) × (length slice < length table) × (get_or counts g 0 < 65538)
      flaw_asked room =
          let short = its_size _ h (a.sofar h) l post in
          let same = a.same in
          (short, (let y : length slice < length table = omega arith in y), tallies.few g)

      of_its_code : {x : Option Flaw} → AskedPost (eqb g 0) (get_or counts g 0) slice x → FlawIn s g x
      unfolding Keeps count_of
      of_its_code (counts_differ e) = no_heights h.says.judged (λ i k m. entry_breaks (program_of h) counts tallies g e k)
      of_its_code (not_whole e) = no_heights h.says.judged (λ i k m. true≢false (sym (rw code at i) ∙ e))
      of_its_code (not_landing e) = no_heights h.says.judged (λ i k m. true≢false (sym (rw code at m) ∙ e))
      of_its_code (asked n {x} p) =
          let counted : get_or counts g 0 - 2 ≡ count_of (program_of h) g = sym (other_counts g (calls_in (program_of h).functions) (tallies.each g) n) in
          finds h.says.judged {x = x} (rw (← counted, code) p)

      pub flaw_there : g ≡ f → {x : Option Flaw} → AskedPost (eqb g 0) (get_or counts g 0) slice x → FlawIn s f x
      flaw_there e {x} p = subst (λ (k : ℕ). FlawIn s k x) e (of_its_code p)

-- ---- an image

module _ (image : List ℕ) (f : ℕ) {r : Result Sizes Broken} (post : JudgePost image r) where
  pub no_image : {b : Broken} → r ≡ Err b → FlawIn image f None
  no_image {b = At o} e = not_an_image (judged_not image r post o e)

  module _ {z : Sizes} (e : r ≡ Ok z) {b : Bool} (tells : (q : Program) → SizesOf q z → b ≡ within_limits q) where
    limits : b ≡ within_limits (judged_is image r post z e).program
    limits = tells _ (judged_is image r post z e).sizes

    pub over_limits : not b ≡ true → FlawIn image f None
    over_limits a = past_a_limit (judged_is image r post z e).judged (sym limits ∙ not-true _ a)

    pub flaw_ready : not b ≡ false → Ready image z
    flaw_ready a = record { says = judged_is image r post z e; within = sym limits ∙ not-false _ a }

abbrev is_fine : Judged → Bool
is_fine (fine p) = true
is_fine (broken i) = false

fine_not_broken : {c : Judged} {p : Program} {i : ℕ} → c ≡ fine p → c ≡ broken i → ⊥
fine_not_broken e f = true≢false (ap is_fine (sym e ∙ f))

told_of_broken : (p : Program) (f : ℕ) → (Keeps p r.Heights f → ⊥) → (x : Option Flaw) → FlawPost (is_main f) (count_of p f) (code_of p f) x
    → IsSomeAnd x (BreaksAt (is_main f) (count_of p f) (code_of p f))
unfolding Keeps
told_of_broken p f n None h = absurd (n h.means)
told_of_broken p f n (Some y) h = h.means

-- THE LAW: of a function that breaks rule 6 first, what is told breaks it
pub a_flaw_is_told : {image : List ℕ} {p : Program} {f : ℕ} → judge image ≡ fine p → within_limits p ≡ true → BrokenRule p r.Heights f → {x : Option Flaw} → FlawIn image f x
    → IsSomeAnd x (BreaksAt (is_main f) (count_of p f) (code_of p f))
unfolding rule_number
a_flaw_is_told known within b (not_an_image e) = absurd (fine_not_broken known e)
a_flaw_is_told known within b (past_a_limit {p = q} e n) = absurd (true≢false (sym within ∙ rw (fine_one known e) n))
a_flaw_is_told {f = f} known within b (no_function {p = q} e n) = absurd (omega (arith, b.known, ap (λ (o : Program). length o.functions) (fine_one known e)))
a_flaw_is_told {f = f} known within b (no_heights {p = q} e n) =
    let same = fine_one known e in
    absurd (n (rw (← same) (b.earlier r.Instructions (omega arith) f b.known)) (rw (← same) (b.earlier r.Counts (omega arith) f b.known))
    (rw (← same) (b.earlier r.Jumps (omega arith) f b.known)))
a_flaw_is_told {p = p} {f} known within b (finds {p = q} e {x} post) =
    told_of_broken p f b.breaks x (subst (λ (o : Program). FlawPost (is_main f) (count_of o f) (code_of o f) x) (sym (fine_one known e)) post)
