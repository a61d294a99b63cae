-- `run_scalars::logic::jump_if_false` meets its contract.
use borrow.Author.Rules.{rules}
use Rattle.value.proofs.Operands.{got_some, no_boolean}
use Rattle.run_arms.proofs.Posts.{jumps_if_false, one_none, one_wrong, stays, jumps_on}
use Rattle.run_scalars.proofs.logic.jump_if_false.Goals as goal

pub returns-in_default : goal.returns-in_default
returns-in_default c =
    one_none c.requires.0 c.pop.ensures (jumps_if_false _)
    c.in_default.is

pub returns-in_default-v : goal.returns-in_default-v
returns-in_default-v c =
    one_wrong c.requires.0 c.pop.ensures (jumps_if_false _) c.in-Ok.is
    (search (rules, no_boolean))

pub overflow_sub-count : goal.overflow_sub-count
overflow_sub-count c = search (got_some, rules)

pub returns-then-x : goal.returns-then-x
returns-then-x c = search (rules, stays)

pub returns : goal.returns
returns c = search (rules, jumps_on)
