-- `image_load::loading::load_others` meets its contract.
use native.Mathlib.Omega.{arith}
use Rattle.image_load.proofs.Placing.{others_begin, others_filled, others_fit, others_small, others_next}
use Rattle.std.proofs.Common.{rules}
use Rattle.image_load.proofs.loading.load_others.Goals as goal

pub loop-i-init : goal.loop-i-init
loop-i-init c = search (rules, others_begin)

pub load_function-f-requires : goal.load_function-f-requires
load_function-f-requires c = search (rules, others_fit)

pub overflow_add-t : goal.overflow_add-t
overflow_add-t c =
    let z =
    (others_small _ _ _ _ _ _ _ _ c.requires _ _ _ _ _ _ _ _ c.loop-i.invariant c.loop-i-test.true _ _ _ _ _
    c.load_function-f.ensures).0 in
    omega arith

pub overflow_add-c : goal.overflow_add-c
overflow_add-c c =
    let z =
    (others_small _ _ _ _ _ _ _ _ c.requires _ _ _ _ _ _ _ _ c.loop-i.invariant c.loop-i-test.true _ _ _ _ _
    c.load_function-f.ensures).1 in
    omega arith

pub loop-i-preserved : goal.loop-i-preserved
loop-i-preserved c = search (rules, others_next)

pub returns : goal.returns
returns c = search (rules, others_filled)
