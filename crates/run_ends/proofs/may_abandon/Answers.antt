-- `run_ends::may_abandon` meets its contract.
use borrow.Author.Rules.{rules}
use borrow.Author.Tests.{not-true, not-false}
use Rattle.run_ends.proofs.Refusing.{not_abandoned_out_of_order, none_to_abandon, not_traced, may_abandon}
use Rattle.run_ends.proofs.may_abandon.Goals as goal

pub returns-then-not-good : goal.returns-then-not-good
returns-then-not-good c = search (rules, not_abandoned_out_of_order, not-true)

pub returns-then-not-m : goal.returns-then-not-m
returns-then-not-m c = search (rules, none_to_abandon, not-true, not-false)

pub returns-then-trace_short : goal.returns-then-trace_short
returns-then-trace_short c = search (rules, not_traced, not-false)

pub returns : goal.returns
returns c = search (rules, may_abandon, not-false)
