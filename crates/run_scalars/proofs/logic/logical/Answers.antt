-- `run_scalars::logic::logical` meets its contract.
use borrow.Author.Rules.{rules}
use native.Mathlib.Omega.{arith}
use Rattle.run_arms.proofs.Rules.{left_place, two_booleans}
use Rattle.run_arms.proofs.Posts.{logic_bad, joined}
use Rattle.run_scalars.proofs.logic.logical.Goals as goal

pub overflow_sub-count : goal.overflow_sub-count
overflow_sub-count c = omega (arith, two_booleans _ _ c.two_booleans.ensures c.in-Ok.is)

pub overflow_sub-count-in-Ok : goal.overflow_sub-count-in-Ok
overflow_sub-count-in-Ok c = omega (arith, two_booleans _ _ c.two_booleans.ensures c.in-Ok.is)

pub write_value-requires : goal.write_value-requires
write_value-requires c =
    omega (
      arith,
      two_booleans _ _ c.two_booleans.ensures c.in-Ok.is,
    )

pub returns-in-Err : goal.returns-in-Err
returns-in-Err c = search (rules, logic_bad)

pub returns-in-Ok : goal.returns-in-Ok
returns-in-Ok c = search (rules, joined, left_place)
