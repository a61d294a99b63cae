-- What the listing with notes says of the walk over instructions.
use Rattle.std.specs.Prelude.{List, [], ◌∷◌, ◌++◌, ℕ, suc}
use Rattle.model.specs.Images.{joined}
use Rattle.model.specs.Programs.{Function, stands}
use Rattle.model.specs.Listings.{header_line}
use Rattle.notes.specs.Notes.{Known, noted_line}

-- each function under its header: one line for each position where the walk stands, in the walk's order
unfoldable pub noted_walk : Known → ℕ → List Function → List ℕ
noted_walk known i [] = []
noted_walk known i (f ∷ fs) = header_line i f.name ++ (joined (noted_line known f.code f.places) (stands f.code) ++ noted_walk known (suc i) fs)
