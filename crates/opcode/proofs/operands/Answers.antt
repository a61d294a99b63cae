-- `operands`: at all numbers of an arm the table has the arm's count.
use Rattle.std.proofs.Common.{List, [], ◌∷◌, ℕ, arith}
use Rattle.model.specs.Basics.{ascii}
use Rattle.model.specs.Opcodes.{operands, opcodes, opcode_at}
use Rattle.opcode.proofs.Counts.{in_range_lem}
use Rattle.opcode.proofs.operands.Goals as goal

-- the arms with keys, the last first
abbrev arms : List (List ℕ)
arms = (2 ∷ 28 ∷ 31 ∷ 34 ∷ []) ∷ (7 ∷ []) ∷ []

pub returns-in-29-to-30 : goal.returns-in-29-to-30
unfolding ascii operands opcodes opcode_at
returns-in-29-to-30 c = in_range_lem operands arms 28 3 tt _ c.in-29-to-30.in_default-own.rest (omega arith) (omega arith)

pub returns-in_default : goal.returns-in_default
unfolding ascii operands opcodes opcode_at
returns-in_default c = in_range_lem operands arms 5 21 tt _ c.in_default.in_default-own.rest (omega arith) (omega arith)

pub returns-in_default-2 : goal.returns-in_default-2
unfolding ascii operands opcodes opcode_at
returns-in_default-2 c = in_range_lem operands arms 37 219 tt _ c.in_default.in_default-own.rest (omega arith) (omega arith)

pub returns-in-0-to-1-3 : goal.returns-in-0-to-1-3
unfolding ascii operands opcodes opcode_at
returns-in-0-to-1-3 c = in_range_lem operands arms 26 2 tt _ c.in-0-to-1.in_default-own.rest (omega arith) (omega arith)

pub returns-in-0-to-1-4 : goal.returns-in-0-to-1-4
unfolding ascii operands opcodes opcode_at
returns-in-0-to-1-4 c = in_range_lem operands arms 31 6 tt _ c.in-0-to-1.in_default-own.rest (omega arith) (omega arith)
