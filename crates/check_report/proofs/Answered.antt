-- What is answered of an image can be printed, and its heights are as many as were lent.
use mathlib.Core.Path.{◌≡◌, refl, ◌∙◌}
use mathlib.Core.List.{List}
use Prim.Native.Nat.{ℕ, ◌+◌, ◌*◌, ◌≤◌}
use native.Mathlib.Omega.{arith}
use lib.ListN.{length, take, replicate, length-replicate}
use Rattle.model.specs.Programs.{Program}
use Rattle.model.specs.Images.{fine, judge}
use Rattle.model.specs.Stores.{Stores}
use Rattle.model.specs.Loading.{counts_for}
use Rattle.layout.proofs.Writing.{length_written}
use Rattle.image_load.proofs.Loads.{one_word}
use Rattle.check_rules.specs.declared.Rule.TheVariants as r
use Rattle.check_rules.specs.Checks.{CheckAs, not_an_image, no_place_lem, past_a_limit, no_room, breaks, passes}
use Rattle.printing.specs.Links.{Put}
use Rattle.printing.proofs.Puts.{within}
use Rattle.report_lines.specs.Links.{printed}
use Rattle.check_heights.specs.declared.Flaw.{Flaw}
use Rattle.check_rules.specs.Rules.{count_of, code_of, is_main}
use Rattle.check_heights.specs.Answer.{BreaksAt}
use Rattle.check_image.specs.Flaws.{FlawIn}
use Rattle.check_image.proofs.Seeking.{a_flaw_is_told}
use Rattle.check_report.specs.Texts.{facts_text, checked_text}
use Rattle.check_report.specs.Links.{Inside, Tellable, Answers, too_long, checked, FlawTold, breaks_it, not_heights, Checks, Facts, FlawAsked, asked, not_asked, Said}
use Rattle.check_report.proofs.Saying.{said_taken, said_length}
use Rattle.std.specs.Prelude.{Err, IsSomeAnd, None, Option, Result, Some}
use Rattle.model.specs.declared.Counts.{Counts}
use Rattle.check_rules.specs.declared.Rejected.{Rejected}
use Rattle.check_rules.specs.declared.Rejected.TheVariants as no

module _ {image heights : List ℕ} {s : Stores} where
  inside_check : {a : Result Counts Rejected} {hs : List ℕ} {s' : Stores} → CheckAs image heights s a hs s' → Inside a (length hs)
  unfolding counts_for
  inside_check (not_an_image e) = tt
  inside_check (no_place_lem e h) = tt
  inside_check (past_a_limit e h w) = tt
  inside_check (no_room e h w r) = tt
  inside_check (breaks e h w r b) = tt
  inside_check (passes {p = p} e h w r y {hs = hs} g) = rw (length_written heights 0 hs) (one_word _ heights h).0

  same_check : {a : Result Counts Rejected} {hs : List ℕ} {s' : Stores} → CheckAs image heights s a hs s' → length hs ≡ length heights
  same_check (not_an_image e) = refl
  same_check (no_place_lem e h) = refl
  same_check (past_a_limit e h w) = refl
  same_check (no_room e h w r) = refl
  same_check (breaks e h w r b) = refl
  same_check (passes e h w r y {hs = hs} g) = length_written heights 0 hs

module _ {image heights : List ℕ} where
  as_many : {a : Result Counts Rejected} {hs : List ℕ} → Answers image heights a hs → length hs ≡ length heights
  as_many (too_long h) = refl
  as_many (checked h k) = same_check k

  inside : {a : Result Counts Rejected} {hs : List ℕ} → Answers image heights a hs → Inside a (length hs)
  inside (too_long h) = tt
  inside (checked h k) = inside_check k

-- what was asked of the heights is true of the function that the check named
told_flaw : {image : List ℕ} {p : Program} → judge image ≡ fine p → {f : ℕ} (x : Option Flaw) → IsSomeAnd x (BreaksAt (is_main f) (count_of p f) (code_of p f))
    → FlawTold image (Err (no.Breaks r.Heights f)) x
told_flaw e (Some y) h = breaks_it e h
told_flaw e None h = absurd h

told_broken : {image heights : List ℕ} {s : Stores} {f : ℕ} {hs : List ℕ} {s' : Stores} → CheckAs image heights s (Err (no.Breaks r.Heights f)) hs s' → {x : Option Flaw} → FlawIn image f x
    → FlawTold image (Err (no.Breaks r.Heights f)) x
told_broken (breaks e h n o b) {x} y = told_flaw e x (a_flaw_is_told e n b y)

flaw_true : {image heights hs : List ℕ} {a : Result Counts Rejected} {x : Option Flaw} → Answers image heights a hs → FlawAsked image a x → FlawTold image a x
flaw_true (checked h k) (asked y) = told_broken k y
flaw_true h (not_asked n) = not_heights n

-- with a place for the heights of 256 functions
module _ {image hs : List ℕ} {a : Result Counts Rejected} (h : Answers image (replicate 256 0) a hs) where
  places_256 : length hs ≡ 256
  places_256 = as_many h ∙ length-replicate {A = ℕ} 256 0

  pub tellable : Tellable a hs
  tellable = let e = places_256 in record { inside = inside h; small = omega arith }

  pub facts_put : {out out' : List ℕ} {r : ℕ} → Put (96 + 64 * length hs) (facts_text a hs) out 0 out' r → Facts image out r out'
  facts_put p = let e = places_256 in record { answer = a; heights = hs; answers = h; put = within p 16480 (omega arith) }

  -- what is said besides, in its 384 places
  module _ {s : List ℕ} {n : ℕ} (p : Said image a (replicate 384 0) s n) where
    pub said_there : n ≡ length (take n s)
    said_there = said_length p.put (let all = length-replicate {A = ℕ} 384 0 in omega arith)

    pub said_fits : length (take n s) ≤ 384
    said_fits = let e = said_there in let m = p.put.near in omega arith

    pub image_checked : {out out' : List ℕ} {r : ℕ} → record { count = r; out = out' } ≡ printed (checked_text a (take n s) hs) out → Checks image out r out'
    image_checked e = record {
      answer = a;
      heights = hs;
      answers = h;
      flaw = p.flaw;
      told = flaw_true h p.finds;
      text = rw (said_taken p.put (let all = length-replicate {A = ℕ} 384 0 in omega arith)) at e;
    }
