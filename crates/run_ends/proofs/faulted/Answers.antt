-- `run_ends::faulted` meets its contract.
use borrow.Author.Rules.{rules}
use Rattle.run_ends.proofs.Answering.{faults}
use Rattle.run_ends.proofs.faulted.Goals as goal

pub returns : goal.returns
returns c = search (rules, faults)
