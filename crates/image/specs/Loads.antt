-- What it is that bytes load as a program, and what a store of numbers of so many bits is.
use Rattle.std.specs.Prelude.{◌≡◌, true, List, ℕ, ◌<◌, get_or, Ok}
use Rattle.model.specs.Programs.{Program}
use Rattle.model.specs.Stores.{Stores, program_in}
use Rattle.model.specs.Orders.{program_ok}
use Rattle.model.specs.Loading.{laid, counts_for, load_of}

-- in the stores y, `load` accepts these bytes, and the counts and the stores that it leaves are in good order and stand for p
pub record LoadsAs (p : Program) (image : List ℕ) (y : Stores) : Type 0 where
  pub accepted : load_of image y ≡ record { answer = Ok (counts_for p); stores = laid p y }
  pub order : program_ok (counts_for p) (laid p y) ≡ true
  pub program : program_in (counts_for p) (laid p y) ≡ p

-- every number of a store is less than b, as the type of its slice says
abbrev pub Below : ℕ → List ℕ → Type 0
Below b l = (i : ℕ) → get_or l i 0 < b
