-- `put_struct`: two counts.
use borrow.Author.Rules.{rules}
use Rattle.model.specs.Basics.{ascii}
use Rattle.report_lines.proofs.Pieces.{struct_is}
use Rattle.report_lines.proofs.values.put_struct.Goals as goal

pub returns : goal.returns
unfolding ascii
returns c = search (rules, struct_is)
