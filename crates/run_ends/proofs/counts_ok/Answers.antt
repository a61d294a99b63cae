-- `run_ends::counts_ok` meets its contract.
use borrow.Author.Rules.{rules}
use Rattle.run_ends.proofs.Judging.{counts_are}
use Rattle.run_ends.proofs.counts_ok.Goals as goal

pub returns : goal.returns
returns c = search (rules, counts_are)
