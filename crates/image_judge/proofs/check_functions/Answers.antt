-- `image_judge::check_functions` meets its contract.
use borrow.Author.Rules.{rules}
use native.Mathlib.Omega.{arith}
use Rattle.std.proofs.lemmas.Result.{err_from_is_err_and}
use Rattle.image_judge.proofs.Functions.{all_none, all_first, all_zero, all_bad, all_next, all_bad_2, all_fit, all_read}
use Rattle.image_judge.proofs.check_functions.Goals as goal

pub returns-in_default : goal.returns-in_default
returns-in_default c = search (rules, all_none)

pub returns-then-count-eq0 : goal.returns-then-count-eq0
returns-then-count-eq0 c = search (rules, all_zero)

pub check_function-requires : goal.check_function-requires
check_function-requires c = all_first _ _ c.requires _ c.read_number.ensures _ _ _ c.in-Some.is c.wide-count.ensures

pub returns-in_err-m : goal.returns-in_err-m
returns-in_err-m c =
    let p = err_from_is_err_and c.from_residual.result c.from_residual.ensures.1 in
    rw (p.1, p.2)
    (all_bad _ _ c.requires _ c.read_number.ensures _ _ _ c.in-Some.is c.wide-count.ensures
    c.if-count-eq0.false _ c.check_function.ensures _ c.in_err-m.was)

pub check_others-requires : goal.check_others-requires
check_others-requires c =
    all_next _ _ c.requires _ c.read_number.ensures _ _ _ c.in-Some.is c.wide-count.ensures
    c.if-count-eq0.false _ c.check_function.ensures _ c.in_ok-m.was

pub returns-in_err-z : goal.returns-in_err-z
returns-in_err-z c =
    let p = err_from_is_err_and c.from_residual-in_err-z.result c.from_residual-in_err-z.ensures.1 in
    rw (p.1, p.2)
    (all_bad_2 _ _ c.requires _ c.read_number.ensures _ _ _ c.in-Some.is c.wide-count.ensures
    c.if-count-eq0.false _ c.check_function.ensures _ c.in_ok-m.was _ c.check_others.ensures _ c.in_err-z.was)

pub overflow_add-result : goal.overflow_add-result
overflow_add-result c =
    let z =
    all_fit _ _ c.requires _ c.read_number.ensures _ _ _ c.in-Some.is c.wide-count.ensures
    c.if-count-eq0.false _ c.check_function.ensures _ c.in_ok-m.was _ c.check_others.ensures _ c.in_ok-z.was in
    omega arith

pub returns : goal.returns
returns c = search (rules, all_read, c.in_ok-m.was, c.in_ok-z.was)
