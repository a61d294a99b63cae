-- What was put into a store.
use Rattle.std.specs.Prelude.{◌≡◌, List, ℕ, ◌+◌, ◌≤◌, length}
use Rattle.model.specs.Emission.{written}

-- the text l was put into s from place i on, as far as s reaches; r is the place behind it, at most k further
pub record Put (k : ℕ) (l s : List ℕ) (i : ℕ) (s' : List ℕ) (r : ℕ) : Type 0 where
  pub stored : s' ≡ written s i l
  pub next : r ≡ i + length l
  pub near : r ≤ i + k
