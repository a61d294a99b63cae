-- `popped_at`: what the row says with the two operands.
use Rattle.check_heights.proofs.Instructions.{popped_is}
use borrow.Author.Rules.{rules}
use Rattle.check_heights.proofs.popped_at.Goals as goal

pub returns : goal.returns
returns c = search (rules, popped_is)
