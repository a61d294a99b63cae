-- `second_names`: at all numbers of an arm the table has the arm's kind.
use Rattle.std.proofs.Common.{[], ◌∷◌, arith}
use Rattle.model.specs.Basics.{ascii}
use Rattle.model.specs.Opcodes.{opcodes, opcode_at}
use Rattle.opcode.proofs.Counts.{in_range_lem}
use Rattle.opcode.proofs.Naming.{named, names_it}
use Rattle.opcode.proofs.second_names.Goals as goal

pub returns-in_default : goal.returns-in_default
unfolding ascii opcodes opcode_at
returns-in_default c =
    names_it 7 (in_range_lem (named 1) ((28 ∷ 34 ∷ []) ∷ []) 0 256 tt _ c.in_default.in_default-own.rest (omega arith) (omega arith))
