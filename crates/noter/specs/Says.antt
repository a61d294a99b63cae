-- What is said of an image.
use Rattle.std.specs.Prelude.{◌≡◌, List, ℕ}
use Rattle.model.specs.Emission.{written}
use Rattle.notes.specs.Notes.{noter_text}
use Rattle.report.specs.Links.{printed}

-- the store holds the text printed of the image, as far as it has room for it
unfoldable pub Says : List ℕ → List ℕ → List ℕ → Type 0
Says image out out' = out' ≡ (printed (noter_text image) out).out

-- the store begins with the whole text
unfoldable pub SaysAll : List ℕ → List ℕ → List ℕ → Type 0
SaysAll image out out' = out' ≡ written out 0 (noter_text image)
