-- `run_ends::ended` meets its contract.
use borrow.Author.Rules.{rules}
use Rattle.run_ends.proofs.Answering.{ends_unanswered, ends_answered}
use Rattle.run_ends.proofs.ended.Goals as goal

pub returns-then-returns-eq0 : goal.returns-then-returns-eq0
returns-then-returns-eq0 c = search (rules, ends_unanswered)

pub returns : goal.returns
returns c = search (rules, ends_answered)
