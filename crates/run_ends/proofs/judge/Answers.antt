-- `run_ends::judge` meets its contract.
use borrow.Author.Rules.{rules}
use Rattle.run_ends.proofs.Judging.{not_whole, rest_is}
use Rattle.run_ends.proofs.judge.Goals as goal

pub returns-then-stores_ok : goal.returns-then-stores_ok
returns-then-stores_ok c = search (rules, rest_is)

pub returns-else-stores_ok : goal.returns-else-stores_ok
returns-else-stores_ok c = search (rules, not_whole)
