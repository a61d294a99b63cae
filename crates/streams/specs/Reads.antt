-- What came of reading into a store.
use Rattle.std.specs.Prelude.{◌≡◌, List, ℕ, ◌≤◌, length, take, None, Option, Some}

-- `&xs[..n]` is in bounds and has n bytes
abbrev pub IsPrefixLen : ℕ → List ℕ → Type 0
IsPrefixLen n xs = (n ≤ length xs) × (n ≡ length (take n xs))

-- so many bytes of the store were read; of a reading that failed nothing is told
abbrev pub ReadAs : Option ℕ → List ℕ → Type 0
ReadAs (Some n) store = IsPrefixLen n store
ReadAs None store = Unit {0}
