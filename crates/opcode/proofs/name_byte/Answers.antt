-- `name_byte`: the table is that of the model's names.
use Rattle.std.proofs.Common.{arith, rules}
use Rattle.model.specs.Basics.{ascii}
use Rattle.model.specs.Opcodes.{opcodes}
use Rattle.opcode.proofs.Names.{no_name, past_row, letter}
use Rattle.opcode.proofs.name_byte.Goals as goal

pub returns-then-number-ge38 : goal.returns-then-number-ge38
returns-then-number-ge38 c = search (rules, no_name, past_row)

pub returns : goal.returns
unfolding ascii opcodes
returns c = rw c.from-number.ensures (letter _ _ _ (omega arith) c.if-i-ge19.false)
