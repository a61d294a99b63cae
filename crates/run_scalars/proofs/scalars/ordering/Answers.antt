-- `run_scalars::scalars::ordering` meets its contract.
use borrow.Author.Rules.{rules}
use native.Mathlib.Omega.{arith}
use Rattle.run_arms.proofs.Rules.{left_place, two_scalars}
use Rattle.run_arms.proofs.Posts.{ordering_bad, ordered}
use Rattle.run_scalars.proofs.scalars.ordering.Goals as goal

pub overflow_sub-count : goal.overflow_sub-count
overflow_sub-count c = omega (arith, two_scalars _ _ c.two_scalars.ensures c.in-Ok.is)

pub overflow_sub-count-in-Ok : goal.overflow_sub-count-in-Ok
overflow_sub-count-in-Ok c = omega (arith, two_scalars _ _ c.two_scalars.ensures c.in-Ok.is)

pub write_value-requires : goal.write_value-requires
write_value-requires c =
    omega (
      arith,
      two_scalars _ _ c.two_scalars.ensures c.in-Ok.is,
    )

pub returns-in-Err : goal.returns-in-Err
returns-in-Err c = search (rules, ordering_bad)

pub returns-in-Ok : goal.returns-in-Ok
returns-in-Ok c = search (rules, ordered, left_place)
