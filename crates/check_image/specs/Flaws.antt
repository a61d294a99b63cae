-- [checker] What breaks rule 6 in a function of an image, as the check comes upon it.
use Rattle.std.specs.Prelude.{◌≡◌, Bool, false, List, ℕ, ◌-◌, ◌≤◌, length, None, Option}
use Rattle.model.specs.Programs.{Program, stands, within_limits}
use Rattle.model.specs.Images.{fine, broken, judge}
use Rattle.check_rules.specs.declared.Rule.TheVariants as r
use Rattle.check_rules.specs.Rules.{whole_at, jump_at, every, count_of, code_of, is_main, Keeps}
use Rattle.check_heights.specs.declared.Flaw.{Flaw}
use Rattle.check_heights.specs.Answer.{FlawPost}

-- of function f: nothing where there is no such function in an image within the limits, or where rule 1, 4 or 5 is not kept by it; else what breaks the
-- rule of heights, and nothing exactly where it is kept
pub data FlawIn (image : List ℕ) (f : ℕ) : Option Flaw → Type 0 where
  not_an_image : {i : ℕ} → judge image ≡ broken i → FlawIn image f None
  past_a_limit : {p : Program} → judge image ≡ fine p → within_limits p ≡ false → FlawIn image f None
  no_function : {p : Program} → judge image ≡ fine p → length p.functions ≤ f → FlawIn image f None
  no_heights : {p : Program} → judge image ≡ fine p → (Keeps p r.Instructions f → Keeps p r.Counts f → Keeps p r.Jumps f → ⊥) → FlawIn image f None
  finds : {p : Program} → judge image ≡ fine p → {x : Option Flaw} → FlawPost (is_main f) (count_of p f) (code_of p f) x → FlawIn image f x

-- of a code, with its function's entry of the tally
pub data AskedPost (main : Bool) (entry : ℕ) (code : List ℕ) : Option Flaw → Type 0 where
  counts_differ : entry ≡ 1 → AskedPost main entry code None
  not_whole : every (whole_at code) (stands code) ≡ false → AskedPost main entry code None
  not_landing : every (jump_at main code) (stands code) ≡ false → AskedPost main entry code None
  asked : (entry ≡ 1 → ⊥) → {x : Option Flaw} → FlawPost main (entry - 2) code x → AskedPost main entry code x
