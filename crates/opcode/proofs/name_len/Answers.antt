-- `name_len`: the name reaches every place that the loop comes to.
use borrow.Author.Rules.{rules}
use Rattle.opcode.proofs.Names.{at_space, at_letter, full}
use Rattle.opcode.proofs.name_len.Goals as goal

pub returns-then-name_byte-eq32 : goal.returns-then-name_byte-eq32
returns-then-name_byte-eq32 c = search (rules, at_space)

pub loop-i-preserved : goal.loop-i-preserved
loop-i-preserved c = search (rules, at_letter)

pub returns : goal.returns
returns c = search (rules, full)
