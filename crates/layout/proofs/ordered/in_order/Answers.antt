-- `layout::ordered::in_order` meets its contract.
use Rattle.layout.proofs.Names.{in_order_is}
use borrow.Author.Rules.{rules}
use Rattle.layout.proofs.ordered.in_order.Goals as goal

pub returns : goal.returns
returns c = search (rules, in_order_is)
