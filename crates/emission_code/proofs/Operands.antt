-- The two bytes of an operand.
use Rattle.std.proofs.Common.{◌≡◌, ℕ, List, ◌<◌, ◌^◌, arith}
use Rattle.std.specs.Int.{to_le_bytes, w16}
use Rattle.model.specs.Emission.{u16}

pub two_bytes : (a : ℕ) (bytes : List ℕ) → a < 2 ^ 16 → bytes ≡ to_le_bytes w16 a → bytes ≡ u16 a
unfolding u16
two_bytes a bytes h e = search (arith, e)
