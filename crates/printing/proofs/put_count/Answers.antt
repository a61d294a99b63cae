-- `put_count`: the text, and the number behind it.
use borrow.Author.Rules.{rules}
use Rattle.printing.proofs.Digits.{count_is}
use Rattle.printing.proofs.put_count.Goals as goal

pub returns : goal.returns
returns c = search (rules, count_is)
