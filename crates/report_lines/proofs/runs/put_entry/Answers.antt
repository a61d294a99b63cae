-- `put_entry`: the function, the place, and a line with the units.
use borrow.Author.Rules.{rules}
use Rattle.model.specs.Basics.{ascii}
use Rattle.report_lines.proofs.Lines.{entry_is}
use Rattle.report_lines.proofs.runs.put_entry.Goals as goal

pub returns : goal.returns
unfolding ascii
returns c = search (rules, entry_is)
