-- What records come to, by what a function that is called at each record's number answers.
use Rattle.std.specs.Prelude.{◌≡◌, Bool, true, false, List, [], ◌∷◌, ℕ, ◌+◌, ◌^◌, ◌≤◌, length, Result, Ok, Err}
use Rattle.std.specs.Fn.{Mut, Called}
use Rattle.records.specs.declared.Stop.{Stop}
use Rattle.records.specs.declared.Tally.{Tally}

-- how many of the verdicts say that a record differs
unfoldable pub differences : List Bool → ℕ
differences [] = 0
differences (true ∷ verdicts) = differences verdicts
differences (false ∷ verdicts) = 1 + differences verdicts

module _ {F : Type 0} (g : Mut F (ℕ × Unit {0}) (Result Bool Stop)) (first : F) where
  -- calls at 0, 1, 2 .. gave these verdicts, the last one first, and left the function so
  pub data Judged : List Bool → F → Type 0 where
    none : Judged [] first
    one_more : {verdicts : List Bool} {f f' : F} {verdict : Bool} → Judged verdicts f → Called g f (length verdicts, tt) (Ok verdict) f' → Judged (verdict ∷ verdicts) f'

  -- all the records that were judged are counted, and the function is left so
  pub record Counted (all : Tally) (last : F) : Type 0 where
    pub verdicts : List Bool
    pub judged : Judged verdicts last
    pub cases : all.cases ≡ length verdicts
    pub differing : all.differences ≡ differences verdicts

  -- counting ended where there was no record to go on with: the call behind the counted ones answered so; or at the last number there is
  pub data Ended (all : Tally) : Type 0 where
    no_more : {f last : F} {stop : Stop} → Counted all f → Called g f (all.cases, tt) (Err stop) last → Ended all
    no_number : {last : F} → Counted all last → 2 ^ 64 ≤ all.cases + 1 → Ended all
