-- `layout::reads::start_of` meets its contract.
use borrow.Author.Rules.{rules}
use Rattle.model.specs.Stores.{start}
use Rattle.layout.proofs.reads.start_of.Goals as goal

pub returns : goal.returns
unfolding start
returns c = search rules
