-- `layout::reads::code_end` meets its contract.
use Rattle.layout.proofs.Parts.{end_is}
use borrow.Author.Rules.{rules}
use Rattle.layout.proofs.reads.code_end.Goals as goal

pub returns : goal.returns
returns c = search (rules, end_is)
