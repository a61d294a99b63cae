-- `image_judge::judge` meets its contract.
use native.Mathlib.Omega.{arith}
use Rattle.std.proofs.lemmas.Result.{err_from_is_err_and}
use Rattle.image_judge.proofs.Judges.{judge_1, structs_at, judge_2, functions_at, judge_3, judge_4, text_fits, judge_5}
use Rattle.image_judge.proofs.judge.Goals as goal

pub returns-in_err-c : goal.returns-in_err-c
returns-in_err-c c =
    let p = err_from_is_err_and c.from_residual.result c.from_residual.ensures.1 in
    rw (p.1, p.2) (judge_1 _ _ c.check_constants.ensures _ c.in_err-c.was)

pub check_structs-requires : goal.check_structs-requires
check_structs-requires c = structs_at _ _ c.check_constants.ensures _ c.in_ok-c.was

pub returns-in_err-s : goal.returns-in_err-s
returns-in_err-s c =
    let p = err_from_is_err_and c.from_residual-in_err-s.result c.from_residual-in_err-s.ensures.1 in
    rw (p.1, p.2) (judge_2 _ _ c.check_constants.ensures _ c.in_ok-c.was _ c.check_structs.ensures _ c.in_err-s.was)

pub check_functions-requires : goal.check_functions-requires
check_functions-requires c = functions_at _ _ c.check_constants.ensures _ c.in_ok-c.was _ c.check_structs.ensures _ c.in_ok-s.was

pub returns-in_err-f : goal.returns-in_err-f
returns-in_err-f c =
    let p = err_from_is_err_and c.from_residual-in_err-f.result c.from_residual-in_err-f.ensures.1 in
    rw (p.1, p.2)
    (judge_3 _ _ c.check_constants.ensures _ c.in_ok-c.was _ c.check_structs.ensures _ c.in_ok-s.was _
    c.check_functions.ensures _ c.in_err-f.was)

pub returns-then-f-image : goal.returns-then-f-image
returns-then-f-image c =
    judge_4 _ _ c.check_constants.ensures _ c.in_ok-c.was _ c.check_structs.ensures _ c.in_ok-s.was _
    c.check_functions.ensures _ c.in_ok-f.was c.if-f-image.true

pub overflow_add-result : goal.overflow_add-result
overflow_add-result c =
    let z =
    text_fits _ _ c.check_constants.ensures _ c.in_ok-c.was _ c.check_structs.ensures _ c.in_ok-s.was _
    c.check_functions.ensures _ c.in_ok-f.was in
    omega arith

pub returns : goal.returns
returns c =
    judge_5 _ _ c.check_constants.ensures _ c.in_ok-c.was _ c.check_structs.ensures _ c.in_ok-s.was _
    c.check_functions.ensures _ c.in_ok-f.was c.if-f-image.false
