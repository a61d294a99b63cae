-- `put_item`: the item, and its words.
use borrow.Author.Rules.{rules}
use Rattle.check_report.proofs.Saying.{item_is}
use Rattle.check_report.proofs.items.put_item.Goals as goal

pub returns : goal.returns
returns c = search (rules, item_is)
