-- `put_checked`: the facts, and the words behind them.
use borrow.Author.Rules.{rules}
use Rattle.check_report.proofs.Lines.{checked_is}
use Rattle.check_report.proofs.put_checked.Goals as goal

pub returns : goal.returns
returns c = search (rules, checked_is)
