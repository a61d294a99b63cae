-- An opcode's name with spaces up to 13, letter by letter.
use mathlib.Core.Path.{◌≡◌}
use mathlib.Core.List.{List}
use Prim.Native.Nat.{ℕ, ◌+◌, ◌-◌, ◌≤◌, ◌<◌, max}
use native.Mathlib.Omega.{arith}
use lib.Dec.{leb, leb→le}
use lib.ListN.{length, get_or, length-append, length-replicate}
use Rattle.model.specs.Basics.{ascii}
use Rattle.model.specs.Opcodes.{opcodes, opcode_at}
use Rattle.model.specs.Listings.{padded_to}
use Rattle.opcode.proofs.Arms.{within}
use Rattle.opcode.proofs.Names.{row_at}

padded_length : (w : ℕ) (t : List ℕ) → length (padded_to w t) ≡ length t + (w - length t)
unfolding padded_to
padded_length w t = simp (length-append, length-replicate)

-- the letter at i, or a space
pub letter : (w : ℕ) (t : List ℕ) (d i : ℕ) → i < length (padded_to w t) → get_or (padded_to w t) i d ≡ get_or t i 32
unfolding padded_to
letter w t d i h = let e = padded_length w t in row_at t (w - length t) d i (omega arith)

pub padded_13 : (t : List ℕ) (n : ℕ) → n ≡ length t → {end : ℕ} → end ≡ max n 13 → end ≡ length (padded_to 13 t)
padded_13 t n e f = let l = padded_length 13 t in omega arith

-- no name is longer than 19
pub short : (b : ℕ) → b < 256 → length (padded_to 13 (opcode_at b).name) ≤ 19
unfolding ascii opcodes opcode_at
short b h =
    let l = padded_length 13 (opcode_at b).name in
    let z : length (opcode_at b).name ≤ 19 = leb→le _ _ (within (λ x. leb (length (opcode_at x).name) 19) 0 256 tt b (omega arith) h) in
    omega arith
