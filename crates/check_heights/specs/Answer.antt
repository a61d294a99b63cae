-- [check] Rule 6 of one function: what the pass over its code is given, and what it answers.
use Rattle.std.specs.Prelude.{◌≡◌, Bool, true, false, List, ℕ, ◌≤◌, ◌<◌, length, MatchOption, None, Option, Some}
use Rattle.model.specs.Programs.{stands}
use Rattle.check_rules.specs.Rules.{whole_at, jump_at, every, suffices, Path, Heights, Greatest}
use Rattle.check_heights.specs.declared.Flaw.{Flaw}
use Rattle.check_heights.specs.declared.Flaw.TheVariants as w

-- rules 1 and 5 hold of the code, and the table has a word for each of its positions, the end included
pub record HeightsPre (main : Bool) (count : ℕ) (code table : List ℕ) : Type 0 where
  pub whole : every (whole_at code) (stands code) ≡ true
  pub landing : every (jump_at main code) (stands code) ≡ true
  pub few : count < 65536
  pub codes : length code ≤ 65535
  pub room : length code < length table

abbrev pub HeightsMeans : Option ℕ → (main : Bool) (count : ℕ) (code : List ℕ) → Type 0
HeightsMeans (Some m) main count code = Heights main count code × Greatest main count code m
HeightsMeans None main count code = Heights main count code → ⊥

-- exact: the greatest height where the rule is kept, and None only where it is not
pub record HeightsPost (main : Bool) (count : ℕ) (code : List ℕ) (r : Option ℕ) : Type 0 where
  pub means : HeightsMeans r main count code

-- what breaks the rule: a path comes to a position with a height that does not suffice there; two paths come to one with different heights; or a path
-- comes to the end of a function other than main
pub data BreaksAt (main : Bool) (count : ℕ) (code : List ℕ) : Flaw → Type 0 where
  lacks : {i h : ℕ} → Path main count code i h → i < length code → suffices code i h ≡ false → BreaksAt main count code (w.Lacks i h)
  differs : {i h k : ℕ} → Path main count code i h → Path main count code i k → (h ≡ k → ⊥) → BreaksAt main count code (w.Differs i h k)
  ends : {h : ℕ} → main ≡ false → Path main count code (length code) h → BreaksAt main count code (w.Ends h)

-- nothing exactly where the rule is kept; else what breaks it
pub record FlawPost (main : Bool) (count : ℕ) (code : List ℕ) (x : Option Flaw) : Type 0 where
  pub means : MatchOption x (Heights main count code) (BreaksAt main count code)
