-- `put_refused`: the item, where one breaks a rule.
use borrow.Author.Rules.{rules}
use Rattle.check_report.proofs.Saying.{item_put, no_item}
use Rattle.check_report.proofs.details.put_refused.Goals as goal

pub returns-in_default : goal.returns-in_default
returns-in_default c = no_item _ _ c.in_default.not-BrokenImage _

pub returns : goal.returns
returns c = search (rules, item_put)
