-- `put_height`: the function, and a line with its height.
use borrow.Author.Rules.{rules}
use Rattle.model.specs.Basics.{ascii}
use Rattle.check_report.proofs.Lines.{height_is}
use Rattle.check_report.proofs.facts.put_height.Goals as goal

pub returns : goal.returns
unfolding ascii
returns c = search (rules, height_is)
