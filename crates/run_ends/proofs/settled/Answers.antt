-- `run_ends::settled` meets its contract.
use borrow.Author.Rules.{rules}
use Rattle.run_ends.proofs.Answering.{ends_unpaused, pauses_unended}
use Rattle.run_ends.proofs.settled.Goals as goal

pub returns-then-is_paused : goal.returns-then-is_paused
returns-then-is_paused c = search (rules, pauses_unended)

pub returns-else-is_paused : goal.returns-else-is_paused
returns-else-is_paused c = search (rules, ends_unpaused)
