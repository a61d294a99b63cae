-- `run_ends::values_ok` meets its contract.
use borrow.Author.Rules.{rules}
use borrow.Author.Tests.{not-true, not-false}
use Rattle.run_ends.proofs.Judging.{cells_fit, not_exact, values_are}
use Rattle.run_ends.proofs.values_ok.Goals as goal

pub returns-then-not-exact : goal.returns-then-not-exact
returns-then-not-exact c = search (rules, not_exact, not-true)

pub stack_ok-good-requires : goal.stack_ok-good-requires
stack_ok-good-requires c = search (rules, cells_fit, not-false)

pub last_ok-stands-requires : goal.last_ok-stands-requires
last_ok-stands-requires c = search (rules, cells_fit, not-false)

pub returns : goal.returns
returns c = search (rules, values_are, not-false)
