-- `height_after`: what is popped was there.
use Rattle.check_heights.proofs.Instructions.{pops_within, height_is}
use borrow.Author.Rules.{rules}
use Rattle.check_heights.proofs.height_after.Goals as goal

pub overflow_sub-left : goal.overflow_sub-left
overflow_sub-left c = search (rules, pops_within)

pub returns : goal.returns
returns c = search (rules, height_is)
