-- `run_steps::counted` meets its contract.
use borrow.Author.Rules.{rules}
use Rattle.run_steps.proofs.Following.{counts_it}
use Rattle.run_steps.proofs.counted.Goals as goal

pub returns : goal.returns
returns c = search (rules, counts_it)
