-- `image_judge::check_function` meets its contract.
use native.Mathlib.Omega.{arith}
use Rattle.image_judge.proofs.Functions.{span_none, span_runs, span_bad, span_read}
use Rattle.std.proofs.lemmas.Result.{err_from_is_err_and}
use Rattle.image_judge.proofs.check_function.Goals as goal

pub returns-in_err-h : goal.returns-in_err-h
returns-in_err-h c =
    let p = err_from_is_err_and c.from_residual.result c.from_residual.ensures.1 in
    rw (p.1, p.2) (span_none _ _ _ _ c.read_head.ensures _ c.in_err-h.was)

pub overflow_add-runs : goal.overflow_add-runs
overflow_add-runs c =
    let z = span_runs _ _ _ _ c.read_head.ensures _ c.in_ok-h.was in
    omega arith

pub check_runs-requires : goal.check_runs-requires
check_runs-requires c = span_runs _ _ _ _ c.read_head.ensures _ c.in_ok-h.was

pub returns-in_err-next : goal.returns-in_err-next
returns-in_err-next c =
    let p = err_from_is_err_and c.from_residual-in_err-next.result c.from_residual-in_err-next.ensures.1 in
    rw (p.1, p.2) (span_bad _ _ _ _ c.read_head.ensures _ c.in_ok-h.was _ c.check_runs.ensures _ c.in_err-next.was)

pub returns : goal.returns
returns c = span_read _ _ _ _ c.read_head.ensures _ c.in_ok-h.was _ c.check_runs.ensures _ c.in_ok-next.was
