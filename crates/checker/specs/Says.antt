-- What is said of the check of an image.
use Rattle.std.specs.Prelude.{List, ℕ}
use Rattle.check_report.specs.Links.{Checks}

-- the image was checked, and the store holds the text printed of that, as far as it has room for it
pub record Says (image out out' : List ℕ) : Type 0 where
  pub printed : ℕ
  pub checks : Checks image out printed out'
