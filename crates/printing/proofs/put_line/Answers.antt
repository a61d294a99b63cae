-- `put_line`: the text, the number, the newline.
use borrow.Author.Rules.{rules}
use Rattle.model.specs.Basics.{ascii}
use Rattle.printing.proofs.Digits.{line_is}
use Rattle.printing.proofs.put_line.Goals as goal

pub returns : goal.returns
unfolding ascii
returns c = search (rules, line_is)
