-- `layout::ordered::move_up` meets its contract.
use Rattle.laws_names.proofs.Putting.{moving_next, moving_done}
use borrow.Author.Rules.{rules}
use Rattle.layout.proofs.ordered.move_up.Goals as goal

pub loop-k-preserved : goal.loop-k-preserved
loop-k-preserved c = search (rules, moving_next)

pub returns : goal.returns
returns c = search (rules, moving_done)
