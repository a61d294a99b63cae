-- `put_found`: the offset, the byte and the operand.
use borrow.Author.Rules.{rules}
use Rattle.model.specs.Basics.{ascii}
use Rattle.check_report.proofs.Saying.{found_none, found_put}
use Rattle.check_report.proofs.details.put_found.Goals as goal

pub returns-then-i-code : goal.returns-then-i-code
unfolding ascii
returns-then-i-code c = search (rules, found_put)

pub returns : goal.returns
returns c = search (rules, found_none)
