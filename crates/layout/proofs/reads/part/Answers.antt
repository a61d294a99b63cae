-- `layout::reads::part` meets its contract.
use Rattle.layout.proofs.Parts.{part_is}
use borrow.Author.Rules.{rules}
use Rattle.layout.proofs.reads.part.Goals as goal

pub returns : goal.returns
returns c = search (rules, part_is)
