-- One function of the listing with notes, and its places in their stores.
use Rattle.std.specs.Prelude.{List, ℕ, eqb, if◌then◌else◌}
use Rattle.model.specs.Programs.{Function}
use Rattle.model.specs.Listings.{Listed, in_front, header_line}
use Rattle.model.specs.Stores.{part, code_word}
use Rattle.notes.specs.Notes.{Known, noted_code}

abbrev pub noted_function : Known → ℕ → Function → Listed
noted_function known i f = in_front (header_line i f.name) (noted_code known f.code f.places)

-- main's and the others' stand in separate stores
unfoldable pub places_in : (functions main_places other_places : List ℕ) → ℕ → List ℕ
places_in fs mp op i = part (if eqb i 0 then mp else op) (code_word fs i)
