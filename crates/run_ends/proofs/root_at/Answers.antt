-- `run_ends::root_at` meets its contract.
use borrow.Author.Rules.{rules}
use Rattle.run_ends.proofs.Answering.{root_is}
use Rattle.run_ends.proofs.root_at.Goals as goal

pub returns : goal.returns
returns c = search (rules, root_is)
