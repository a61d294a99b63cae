-- `run_ends::may_begin` meets its contract.
use borrow.Author.Rules.{rules}
use borrow.Author.Tests.{not-true, not-false}
use Rattle.run_ends.proofs.Refusing.{not_begun_out_of_order, not_begun_twice, not_copied, may_begin}
use Rattle.run_ends.proofs.may_begin.Goals as goal

pub returns-then-not-good : goal.returns-then-not-good
returns-then-not-good c = search (rules, not_begun_out_of_order, not-true)

pub returns-then-m : goal.returns-then-m
returns-then-m c = search (rules, not_begun_twice, not-false)

pub returns-then-copy_short : goal.returns-then-copy_short
returns-then-copy_short c = search (rules, not_copied, not-false)

pub returns : goal.returns
returns c = search (rules, may_begin, not-false)
