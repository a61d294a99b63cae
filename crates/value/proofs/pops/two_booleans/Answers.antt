-- `value::pops::two_booleans` meets its contract.
use borrow.Author.Rules.{rules}
use Rattle.model.specs.Values.{if_boolean, popping_boolean}
use Rattle.value.specs.Links.{booleans_of}
use Rattle.value.proofs.Operands.{none, got_top, got_some, no_right, wrong_right, no_left, wrong_left, two_got, is_boolean_lem, no_boolean}
use Rattle.value.proofs.pops.two_booleans.Goals as goal
use Rattle.std.specs.Prelude.{Err, Ok}

pub returns-in_default : goal.returns-in_default
unfolding booleans_of popping_boolean
returns-in_default c = no_right if_boolean Err (λ x y. Ok (x, y)) (none c.pop.ensures c.in_default.is)

pub returns-in_default-right : goal.returns-in_default-right
unfolding booleans_of popping_boolean
returns-in_default-right c =
    wrong_right if_boolean Err (λ x y. Ok (x, y))
    (got_top _ _ c.pop.ensures c.in-Ok.is)
    (search (rules, no_boolean))

pub overflow_sub-sp : goal.overflow_sub-sp
overflow_sub-sp c = search (rules, got_some)

pub returns-in_default-pop : goal.returns-in_default-pop
unfolding booleans_of popping_boolean
returns-in_default-pop c =
    no_left if_boolean Err (λ x y. Ok (x, y)) (got_top _ _ c.pop.ensures c.in-Ok.is)
    (is_boolean_lem c.in-Boolean.is) (none c.pop-2.ensures c.in_default-pop.is)

pub returns-in_default-left : goal.returns-in_default-left
unfolding booleans_of popping_boolean
returns-in_default-left c =
    wrong_left if_boolean Err (λ x y. Ok (x, y)) (got_top _ _ c.pop.ensures c.in-Ok.is)
    (is_boolean_lem c.in-Boolean.is) (got_top _ _ c.pop-2.ensures c.in-Ok-pop.is)
    (search (rules, no_boolean))

pub returns : goal.returns
unfolding booleans_of popping_boolean
returns c =
    two_got if_boolean Err (λ x y. Ok (x, y)) (got_top _ _ c.pop.ensures c.in-Ok.is)
    (is_boolean_lem c.in-Boolean.is) (got_top _ _ c.pop-2.ensures c.in-Ok-pop.is)
    (is_boolean_lem c.in-Boolean-left.is)
