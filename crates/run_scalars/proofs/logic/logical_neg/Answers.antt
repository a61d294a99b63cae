-- `run_scalars::logic::logical_neg` meets its contract.
use borrow.Author.Rules.{rules}
use mathlib.Core.Path.{refl}
use native.Mathlib.Omega.{arith}
use Rattle.value.proofs.Operands.{got_some, is_boolean_lem, no_boolean}
use Rattle.run_arms.proofs.Posts.{denies, one_none, one_wrong, one_replaced}
use Rattle.run_scalars.proofs.logic.logical_neg.Goals as goal

pub returns-in_default : goal.returns-in_default
returns-in_default c = search (rules, one_none, denies)

pub returns-in_default-v : goal.returns-in_default-v
returns-in_default-v c =
    one_wrong c.requires c.pop.ensures denies c.in-Ok.is (λ j d. no_boolean c.in-Ok.v (search rules) j d)

pub overflow_sub-sp : goal.overflow_sub-sp
overflow_sub-sp c = search (got_some, rules)

pub write_value-requires : goal.write_value-requires
write_value-requires c =
    omega (
      arith,
      got_some _ _ c.pop.ensures c.in-Ok.is,
    )

pub returns : goal.returns
returns c =
    one_replaced c.requires c.pop.ensures c.in-Ok.is denies (is_boolean_lem c.in-Boolean.is) refl
    c.write_value.ensures
