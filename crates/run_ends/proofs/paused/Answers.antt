-- `run_ends::paused` meets its contract.
use borrow.Author.Rules.{rules}
use Rattle.run_ends.proofs.Answering.{pauses}
use Rattle.run_ends.proofs.paused.Goals as goal

pub returns : goal.returns
returns c = search (rules, pauses)
