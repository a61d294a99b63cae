-- `target_at`: the first operand counts from the next instruction.
use Rattle.check_heights.proofs.Instructions.{target_is}
use borrow.Author.Rules.{rules}
use Rattle.check_heights.proofs.target_at.Goals as goal

pub returns : goal.returns
returns c = search (rules, target_is)
