-- `run_scalars::scalars::negate` meets its contract.
use borrow.Author.Rules.{rules}
use mathlib.Core.Path.{ap}
use native.Mathlib.Omega.{arith}
use Rattle.model.specs.declared.Value.TheVariants.{Scalar}
use Rattle.value.proofs.Operands.{got_some, is_scalar_lem, no_scalar}
use Rattle.run_arms.proofs.Posts.{negates, one_none, one_wrong, one_replaced}
use Rattle.run_scalars.proofs.scalars.negate.Goals as goal

pub returns-in_default : goal.returns-in_default
returns-in_default c = search (rules, one_none, negates)

pub returns-in_default-v : goal.returns-in_default-v
returns-in_default-v c =
    one_wrong c.requires c.pop.ensures negates c.in-Ok.is (λ j d. no_scalar c.in-Ok.v (search rules) j d)

pub overflow_sub-sp : goal.overflow_sub-sp
overflow_sub-sp c = search (got_some, rules)

pub write_value-requires : goal.write_value-requires
write_value-requires c =
    omega (
      arith,
      got_some _ _ c.pop.ensures c.in-Ok.is,
    )

pub returns : goal.returns
returns c =
    one_replaced c.requires c.pop.ensures c.in-Ok.is negates (is_scalar_lem c.in-Scalar.is)
    (ap Scalar c.negate.ensures) c.write_value.ensures
