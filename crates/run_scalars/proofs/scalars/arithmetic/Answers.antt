-- `run_scalars::scalars::arithmetic` meets its contract.
use borrow.Author.Rules.{rules}
use native.Mathlib.Omega.{arith}
use Rattle.run_arms.proofs.Rules.{left_place, two_scalars}
use Rattle.run_arms.proofs.Posts.{arithmetic_bad, zero_divided, not_finite, computed}
use Rattle.run_scalars.proofs.scalars.arithmetic.Goals as goal

pub returns-then-zero_divisor : goal.returns-then-zero_divisor
returns-then-zero_divisor c = search (rules, zero_divided)

pub returns-then-strict_fault : goal.returns-then-strict_fault
returns-then-strict_fault c = search (rules, not_finite)

pub overflow_sub-count : goal.overflow_sub-count
overflow_sub-count c =
    omega (
      arith,
      two_scalars _ _ c.two_scalars.ensures c.in-Ok.is,
    )

pub overflow_sub-count-in-Ok : goal.overflow_sub-count-in-Ok
overflow_sub-count-in-Ok c =
    omega (
      arith,
      two_scalars _ _ c.two_scalars.ensures c.in-Ok.is,
    )

pub write_value-requires : goal.write_value-requires
write_value-requires c =
    omega (
      arith,
      two_scalars _ _ c.two_scalars.ensures c.in-Ok.is,
    )

pub returns-in-Err : goal.returns-in-Err
returns-in-Err c = search (rules, arithmetic_bad)

pub returns-else-strict_fault : goal.returns-else-strict_fault
returns-else-strict_fault c = search (rules, computed, left_place)
