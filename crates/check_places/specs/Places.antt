-- [checker] Where a function breaks a rule: the position of the first instruction that does.
use Rattle.std.specs.Prelude.{◌≡◌, Bool, true, List, [], ◌∷◌, ℕ, length, if◌then◌else◌}
use Rattle.model.specs.Programs.{Program, stands}
use Rattle.check_rules.specs.declared.Rule.{Rule}
use Rattle.check_rules.specs.declared.Rule.TheVariants as r
use Rattle.check_rules.specs.Rules.{whole_at, numbers_at, call_at, jump_at, code_of, is_main}
use Rattle.check_code.specs.Links.{Sized}

-- the instruction at i keeps the rule. Rules 4 and 6 are not broken by an instruction alone
unfoldable pub keeps_at : Program → Rule → (main : Bool) → List ℕ → ℕ → Bool
keeps_at p r.Instructions main code i = whole_at code i
keeps_at p r.Numbers main code i = numbers_at p code i
keeps_at p r.Calls main code i = call_at code i
keeps_at p r.Counts main code i = true
keeps_at p r.Jumps main code i = jump_at main code i
keeps_at p r.Heights main code i = true

-- the first of these positions where the test fails; `none` where it fails nowhere
unfoldable pub first_not : (test : ℕ → Bool) → (none : ℕ) → List ℕ → ℕ
first_not test none [] = none
first_not test none (i ∷ is) = if test i then first_not test none is else i

-- of a code: its length where every instruction keeps the rule
unfoldable pub place_in : Program → Rule → (main : Bool) → List ℕ → ℕ
place_in p q main code = first_not (keeps_at p q main code) (length code) (stands code)

unfoldable pub place_of : Program → Rule → (f : ℕ) → ℕ
place_of p q f = place_in p q (is_main f) (code_of p f)

-- ---- what the functions promise, of each program that has so many constants, struct names and functions

pub record KeepsOne (constants structs functions : ℕ) (q : Rule) (main : Bool) (code : List ℕ) (i : ℕ) (b : Bool) : Type 0 where
  pub means : (p : Program) → Sized constants structs functions p → b ≡ keeps_at p q main code i

pub record PlacePost (constants structs functions : ℕ) (q : Rule) (main : Bool) (code : List ℕ) (i : ℕ) : Type 0 where
  pub means : (p : Program) → Sized constants structs functions p → i ≡ place_in p q main code
