-- `put_called`: a Call, or none.
use borrow.Author.Rules.{rules}
use Rattle.model.specs.Basics.{ascii}
use Rattle.check_report.proofs.Calling.{called_put, called_nowhere}
use Rattle.check_report.proofs.calls.put_called.Goals as goal

pub returns-in-Some : goal.returns-in-Some
unfolding ascii
returns-in-Some c = search (rules, called_put)

pub returns-in-None : goal.returns-in-None
returns-in-None c = search (rules, called_nowhere)
