-- `put_answer`: its pieces one behind the other.
use borrow.Author.Rules.{rules}
use Rattle.model.specs.Basics.{ascii}
use Rattle.report_lines.proofs.Lines.{answer_is}
use Rattle.report_lines.proofs.runs.put_answer.Goals as goal

pub returns : goal.returns
unfolding ascii
returns c = search (rules, answer_is)
