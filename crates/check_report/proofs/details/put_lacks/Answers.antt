-- `put_lacks`: the position, the height and what is asked of it.
use Rattle.model.specs.Basics.{ascii}
use Rattle.check_report.proofs.Saying.{lacks_put, lacks_none}
use borrow.Author.Rules.{rules}
use Rattle.check_report.proofs.details.put_lacks.Goals as goal

pub returns-then-i-code : goal.returns-then-i-code
unfolding ascii
returns-then-i-code c = search (rules, lacks_put)

pub returns : goal.returns
returns c = search (rules, lacks_none)
