-- `layout::reads::size_of` meets its contract.
use borrow.Author.Rules.{rules}
use Rattle.model.specs.Stores.{size}
use Rattle.layout.proofs.reads.size_of.Goals as goal

pub returns : goal.returns
unfolding size
returns c = search rules
