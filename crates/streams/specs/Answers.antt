-- What a program answers to its standard input. What it says of bytes is its own: says bytes out out', out being its store before and out' after.
use Rattle.std.specs.Prelude.{◌≡◌, List, ℕ, take, None, Option, Some}
use Rattle.streams.specs.Reads.{ReadAs}

-- of bytes that were read it says what is its own; where they could not be read its store is as it was, and nothing passes for an answer
unfoldable pub Answered : (List ℕ → List ℕ → List ℕ → Type 0) → Option ℕ → List ℕ → List ℕ → List ℕ → Type 0
Answered says (Some n) store out out' = says (take n store) out out'
Answered says None store out out' = out' ≡ out

-- standard input was read into the store, or could not be, and was answered so
pub record Shown (says : List ℕ → List ℕ → List ℕ → Type 0) (store out out' : List ℕ) : Type 0 where
  pub input : Option ℕ
  pub read : ReadAs input store
  pub answered : Answered says input store out out'
