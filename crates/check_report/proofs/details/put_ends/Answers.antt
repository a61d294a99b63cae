-- `put_ends`: the end and the height.
use Rattle.model.specs.Basics.{ascii}
use Rattle.check_report.proofs.Saying.{ends_put}
use borrow.Author.Rules.{rules}
use Rattle.check_report.proofs.details.put_ends.Goals as goal

pub returns : goal.returns
unfolding ascii
returns c = search (rules, ends_put)
