-- What the contracts promise, where it is more than an equation.
use Rattle.std.specs.Prelude.{◌≡◌, Bool, List, ℕ, ◌<◌, eqb, length, get_or}
use Rattle.model.specs.declared.Names.{Names}
use Rattle.model.specs.Programs.{Program, stands}
use Rattle.check_rules.specs.Rules.{in_range, numbers_at, calls_at, is_in, every}
use Rattle.check_code.specs.Tallies.{tallied}

-- the program has so many constants, struct names and functions
pub record Sized (constants structs functions : ℕ) (p : Program) : Type 0 where
  pub of_constants : length p.constants ≡ constants
  pub of_structs : length p.structs ≡ structs
  pub of_functions : length p.functions ≡ functions

-- r is what rule 2 says in each program that has so many: of a number x of a thing of this kind, of the instruction at i, and of a code

pub record Ranges (constants structs functions : ℕ) (kind : Names) (x : ℕ) (r : Bool) : Type 0 where
  pub means : (p : Program) → Sized constants structs functions p → r ≡ in_range p kind x

pub record NumbersOne (constants structs functions : ℕ) (code : List ℕ) (i : ℕ) (r : Bool) : Type 0 where
  pub means : (p : Program) → Sized constants structs functions p → r ≡ numbers_at p code i

pub record NumbersAll (constants structs functions : ℕ) (code : List ℕ) (r : Bool) : Type 0 where
  pub means : (p : Program) → Sized constants structs functions p → r ≡ every (numbers_at p code) (stands code)

-- the first n places are clear
pub record Cleared (n : ℕ) (s : List ℕ) : Type 0 where
  pub clear : (j : ℕ) → j < n → get_or s j 0 ≡ 0

-- below the code's end the marks tell where its instructions begin
pub record Marked (code marks : List ℕ) : Type 0 where
  pub tells : (j : ℕ) → j < length code → eqb (get_or marks j 0) 1 ≡ is_in j (stands code)

-- the Calls at these positions of the code were entered into the tally. An operand is below 65,536, so an entry stays below two more.
pub record Enters (code is before after : List ℕ) : Type 0 where
  pub each : (f : ℕ) → get_or after f 0 ≡ tallied f (get_or before f 0) (calls_at code is)
  pub few : (f : ℕ) → get_or before f 0 < 65538 → get_or after f 0 < 65538
