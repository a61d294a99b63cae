-- `run_ends::fixed` meets its contract.
use borrow.Author.Rules.{rules}
use Rattle.run_ends.proofs.Starting.{fixed_is}
use Rattle.run_ends.proofs.fixed.Goals as goal

pub returns : goal.returns
returns c = search (rules, fixed_is)
