-- `program::order::inside_text` meets its contract.
use Rattle.laws_programs.proofs.Checks.{inside_is}
use borrow.Author.Rules.{rules}
use Rattle.program.proofs.order.inside_text.Goals as goal

pub returns : goal.returns
returns c = search (rules, inside_is)
