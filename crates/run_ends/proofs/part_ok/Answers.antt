-- `run_ends::part_ok` meets its contract.
use borrow.Author.Rules.{rules}
use borrow.Author.Tests.{not-true, not-false}
use Rattle.run_ends.proofs.Judging.{none_is, not_counted, part_is}
use Rattle.run_ends.proofs.part_ok.Goals as goal

pub returns-then-not-counts : goal.returns-then-not-counts
returns-then-not-counts c = search (rules, not_counted, not-true)

pub returns-then-on : goal.returns-then-on
returns-then-on c = search (rules, part_is, not-false)

pub returns : goal.returns
returns c = search (rules, none_is)
