-- `pushes`: at all numbers of an arm the table has the arm's count.
use Rattle.std.proofs.Common.{List, [], ◌∷◌, ℕ, arith}
use Rattle.model.specs.Basics.{ascii}
use Rattle.model.specs.Opcodes.{Opcode, opcodes, opcode_at}
use Rattle.opcode.proofs.Counts.{in_range_lem}
use Rattle.opcode.proofs.pushes.Goals as goal

abbrev count : Opcode → ℕ
count c = c.pushes

abbrev keys : List ℕ
keys = 0 ∷ 28 ∷ 31 ∷ []

pub returns-in_default-4 : goal.returns-in_default-4
unfolding ascii opcodes opcode_at
returns-in_default-4 c =
    (in_range_lem count (keys ∷ []) 23 11 tt _ c.in_default.in_default-own.rest (omega arith) (omega arith), omega arith)

pub returns-in_default-5 : goal.returns-in_default-5
unfolding ascii opcodes opcode_at
returns-in_default-5 c =
    (in_range_lem count (keys ∷ []) 37 219 tt _ c.in_default.in_default-own.rest (omega arith) (omega arith), omega arith)

pub returns-in-0-5 : goal.returns-in-0-5
unfolding ascii opcodes opcode_at
returns-in-0-5 c =
    (in_range_lem count (keys ∷ []) 34 3 tt _ c.in-0.in_default-own.rest (omega arith) (omega arith), omega arith)
