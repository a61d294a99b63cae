-- `run_ends::begun` meets its contract.
use borrow.Author.Rules.{rules}
use Rattle.run_ends.proofs.Answering.{over_at_once, under_way_lem}
use Rattle.run_ends.proofs.begun.Goals as goal

pub returns-then-end-f : goal.returns-then-end-f
returns-then-end-f c = search (rules, over_at_once)

pub returns : goal.returns
returns c = search (rules, under_way_lem)
