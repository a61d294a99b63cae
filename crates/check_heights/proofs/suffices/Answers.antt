-- `suffices`: the two tests of the rule.
use Rattle.check_heights.proofs.Instructions.{suffices_is}
use borrow.Author.Rules.{rules}
use Rattle.check_heights.proofs.suffices.Goals as goal

pub returns : goal.returns
returns c = search (rules, suffices_is)
