-- `put_differs`: the position and the two heights.
use Rattle.model.specs.Basics.{ascii}
use Rattle.check_report.proofs.Saying.{differs_put}
use borrow.Author.Rules.{rules}
use Rattle.check_report.proofs.details.put_differs.Goals as goal

pub returns : goal.returns
unfolding ascii
returns c = search (rules, differs_put)
