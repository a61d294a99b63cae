-- `put_spent`: two lines.
use borrow.Author.Rules.{rules}
use Rattle.model.specs.Basics.{ascii}
use Rattle.report_lines.proofs.Lines.{spent_is}
use Rattle.report_lines.proofs.runs.put_spent.Goals as goal

pub returns : goal.returns
unfolding ascii
returns c = search (rules, spent_is)
