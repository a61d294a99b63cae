-- `pops`: at all numbers of an arm the table has the arm's count.
use Rattle.std.proofs.Common.{List, [], ◌∷◌, ℕ, arith}
use Rattle.model.specs.Basics.{ascii}
use Rattle.model.specs.Opcodes.{Opcode, opcodes, opcode_at}
use Rattle.opcode.proofs.Counts.{in_range_lem}
use Rattle.opcode.proofs.pops.Goals as goal

abbrev count : Opcode → ℕ
count c = c.pops

abbrev keys : List ℕ
keys = 6 ∷ 22 ∷ 26 ∷ 31 ∷ 35 ∷ 37 ∷ []

pub returns-in_default-3 : goal.returns-in_default-3
unfolding ascii opcodes opcode_at
returns-in_default-3 c =
    (in_range_lem count (keys ∷ []) 22 234 tt _ c.in_default.in_default-own.rest (omega arith) (omega arith), omega arith)
