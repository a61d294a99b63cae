-- `value::pops::two_scalars` meets its contract.
use borrow.Author.Rules.{rules}
use Rattle.model.specs.Values.{if_scalar, popping_scalar}
use Rattle.value.specs.Links.{scalars_of}
use Rattle.value.proofs.Operands.{none, got_top, got_some, no_right, wrong_right, no_left, wrong_left, two_got, is_scalar_lem, no_scalar}
use Rattle.value.proofs.pops.two_scalars.Goals as goal
use Rattle.std.specs.Prelude.{Err, Ok}

pub returns-in_default : goal.returns-in_default
unfolding scalars_of popping_scalar
returns-in_default c = no_right if_scalar Err (λ x y. Ok (x, y)) (none c.pop.ensures c.in_default.is)

pub returns-in_default-right : goal.returns-in_default-right
unfolding scalars_of popping_scalar
returns-in_default-right c =
    wrong_right if_scalar Err (λ x y. Ok (x, y))
    (got_top _ _ c.pop.ensures c.in-Ok.is)
    (search (rules, no_scalar))

pub overflow_sub-sp : goal.overflow_sub-sp
overflow_sub-sp c = search (rules, got_some)

pub returns-in_default-pop : goal.returns-in_default-pop
unfolding scalars_of popping_scalar
returns-in_default-pop c =
    no_left if_scalar Err (λ x y. Ok (x, y)) (got_top _ _ c.pop.ensures c.in-Ok.is)
    (is_scalar_lem c.in-Scalar.is) (none c.pop-2.ensures c.in_default-pop.is)

pub returns-in_default-left : goal.returns-in_default-left
unfolding scalars_of popping_scalar
returns-in_default-left c =
    wrong_left if_scalar Err (λ x y. Ok (x, y)) (got_top _ _ c.pop.ensures c.in-Ok.is)
    (is_scalar_lem c.in-Scalar.is) (got_top _ _ c.pop-2.ensures c.in-Ok-pop.is)
    (search (rules, no_scalar))

pub returns : goal.returns
unfolding scalars_of popping_scalar
returns c =
    two_got if_scalar Err (λ x y. Ok (x, y)) (got_top _ _ c.pop.ensures c.in-Ok.is)
    (is_scalar_lem c.in-Scalar.is) (got_top _ _ c.pop-2.ensures c.in-Ok-pop.is)
    (is_scalar_lem c.in-Scalar-left.is)
