-- `second_at`: behind the first operand.
use borrow.Author.Rules.{rules}
use Rattle.check_code.proofs.Instructions.{second_is}
use Rattle.check_code.proofs.second_at.Goals as goal

pub returns : goal.returns
returns c = search (rules, second_is)
