-- `run_arms::frames::call_callable` meets its contract.
use borrow.Author.Rules.{rules}
use Rattle.value.proofs.Operands.{got_some}
use Rattle.cells.proofs.Pairs.{no_reference}
use Rattle.run_arms.proofs.Rules.{named_as}
use Rattle.run_arms.proofs.Posts.{calls_named, one_none, one_wrong, no_name, calls_name}
use Rattle.run_arms.proofs.frames.call_callable.Goals as goal

pub returns-in_default : goal.returns-in_default
returns-in_default c =
    λ u rest d e. one_none c.requires c.pop.ensures
    (calls_named u _) c.in_default.is

pub returns-in_default-v : goal.returns-in_default-v
returns-in_default-v c =
    λ u rest d e. one_wrong c.requires c.pop.ensures (calls_named u _) c.in-Ok.is
    (λ j d. no_reference c.in-Ok.v (search rules) _ d)

pub returns-in_default-newest_function : goal.returns-in_default-newest_function
returns-in_default-newest_function c =
    λ u rest d e. no_name
    c.requires c.pop.ensures
    c.in-Ok.is
    c.in-FunctionReference.is u _
    (named_as u _ _ _ rest e _ _ (search rules) c.pack.ensures
    c.part-name.ensures (c.newest_function.ensures rest)) c.in_default-newest_function.is

pub overflow_sub-below : goal.overflow_sub-below
overflow_sub-below c = search (got_some, rules)

pub returns : goal.returns
returns c =
    λ u rest d e. calls_name c.requires c.pop.ensures c.in-Ok.is c.in-FunctionReference.is u _
    (named_as u _ _ _ rest e _ _ c.in-FunctionReference.known_told-in-FunctionReference-1-own.given.0.1 c.pack.ensures
    c.part-name.ensures (c.newest_function.ensures rest))
    c.in-Ok-newest_function.is (c.enters.ensures u d)
