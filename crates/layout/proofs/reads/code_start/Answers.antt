-- `layout::reads::code_start` meets its contract.
use Rattle.layout.proofs.Parts.{starts_0, starts_behind}
use borrow.Author.Rules.{rules}
use Rattle.layout.proofs.reads.code_start.Goals as goal

pub returns-then-i-lt2 : goal.returns-then-i-lt2
returns-then-i-lt2 c = starts_0 _ _ c.if-i-lt2.true

pub returns : goal.returns
returns c = search (rules, starts_behind)
