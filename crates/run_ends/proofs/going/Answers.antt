-- `run_ends::going` meets its contract.
use borrow.Author.Rules.{rules}
use Rattle.run_ends.proofs.Starting.{last_back}
use Rattle.run_ends.proofs.going.Goals as goal

pub returns : goal.returns
returns c = search (rules, last_back)
