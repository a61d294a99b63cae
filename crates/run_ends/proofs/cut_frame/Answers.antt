-- `run_ends::cut_frame` meets its contract.
use borrow.Author.Rules.{rules}
use Rattle.run_ends.proofs.Starting.{cut_unfetched, cut_fetched}
use Rattle.run_ends.proofs.cut_frame.Goals as goal

pub returns-then-run : goal.returns-then-run
returns-then-run c = search (rules, cut_unfetched)

pub returns : goal.returns
returns c = search (rules, cut_fetched)
