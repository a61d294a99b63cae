-- What is said of an image.
use Rattle.std.specs.Prelude.{◌≡◌, true, List, ℕ}
use Rattle.report.specs.Links.{image_text, printed}

-- the store holds the text printed of the image, as far as it has room for it
unfoldable pub Says : List ℕ → List ℕ → List ℕ → Type 0
Says image out out' = out' ≡ (printed (image_text true image) out).out
