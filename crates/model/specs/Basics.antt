-- Small words that every rule uses.
use Rattle.std.specs.Prelude.{Bool, true, ◌&&◌, List, [], ◌∷◌, ℕ, zero, suc}
use Prim.Native.Char.{code}
use Prim.Native.String.{String, [] as end, ◌∷◌ as ◌then◌}
use Rattle.std.proofs.lemmas.List.Edits.{sets}

-- the bytes of a text of plain letters
unfoldable pub ascii : String → List ℕ
ascii end = []
ascii (◌then◌ c s) = code c ∷ ascii s

-- the test holds at i to i + n - 1
unfoldable pub every_from : ℕ → ℕ → (ℕ → Bool) → Bool
every_from zero i t = true
every_from (suc n) i t = t i && every_from n (suc i) t

-- the store with the numbers l from place i on
unfoldable pub written : List ℕ → ℕ → List ℕ → List ℕ
written s i l = sets s i l

-- all that an example computes with here
unfoldable pub computes : Type 1
unfolding ascii every_from written
computes = Type 0
