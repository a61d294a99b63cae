-- `image_load::loading::load_functions` meets its contract.
use borrow.Author.Rules.{rules}
use native.Mathlib.Omega.{arith}
use Rattle.image_judge.proofs.Passes.{counted_at}
use Rattle.image_load.proofs.Placing.{functions_no_count, functions_none, main_fits, others_at, others_fits, functions_filled}
use Rattle.image_load.proofs.loading.load_functions.Goals as goal

pub returns-in_default : goal.returns-in_default
returns-in_default c = search (rules, functions_no_count)

pub returns-then-count-eq0 : goal.returns-then-count-eq0
returns-then-count-eq0 c =
    absurd
    (functions_none _ _ _ _ _ _ _ _ _ c.requires _ c.read_number.ensures _ _
    (counted_at _ _ _ c.read_number.ensures _ _ _ c.in-Some.is c.wide-count.ensures) c.if-count-eq0.true)

pub load_function-m-requires : goal.load_function-m-requires
load_function-m-requires c =
    main_fits _ _ _ _ _ _ _ _ _ c.requires _ c.read_number.ensures _ _
    (counted_at _ _ _ c.read_number.ensures _ _ _ c.in-Some.is c.wide-count.ensures)
    c.if-count-eq0.false

pub overflow_add-t : goal.overflow_add-t
overflow_add-t c =
    let z = others_at _ _ _ _ _ _ _ _ _
    c.requires _
    c.read_number.ensures _ _ (search counted_at)
    c.if-count-eq0.false _ _ _ _ _
    c.load_function-m.ensures in
    omega arith

pub load_others-requires : goal.load_others-requires
load_others-requires c =
    others_fits _ _ _ _ _ _ _ _ _ c.requires _ c.read_number.ensures _ _
    (counted_at _ _ _ c.read_number.ensures _ _ _ c.in-Some.is c.wide-count.ensures)
    c.if-count-eq0.false _ _ _ _ _ c.load_function-m.ensures

pub returns : goal.returns
returns c =
    functions_filled _ _ _ _ _ _ _ _ _ c.requires _ c.read_number.ensures _ _
    (counted_at _ _ _ c.read_number.ensures _ _ _ c.in-Some.is c.wide-count.ensures)
    c.if-count-eq0.false _ _ _ _ _ c.load_function-m.ensures _ _ _ _ c.load_others.ensures
