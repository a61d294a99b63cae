-- `image_judge::check_runs` meets its contract.
use Rattle.image_judge.proofs.Runs.{judging_start, judging_end, judging_bad, judging_fits, judging_step}
use Rattle.std.proofs.Common.{rules}
use Rattle.std.proofs.lemmas.Result.{err_from_is_err_and}
use Rattle.image_judge.proofs.check_runs.Goals as goal

pub loop-left-init : goal.loop-left-init
loop-left-init c = judging_start _ _ _ c.requires

pub overflow_sub-left : goal.overflow_sub-left
overflow_sub-left c = (judging_fits _ _ _ _ _ _ c.loop-left.invariant c.loop-left-test.true _ c.read_run.ensures _ c.in_ok-p.was).0

pub loop-left-smaller : goal.loop-left-smaller
loop-left-smaller c = (judging_fits _ _ _ _ _ _ c.loop-left.invariant c.loop-left-test.true _ c.read_run.ensures _ c.in_ok-p.was).1

pub loop-left-preserved : goal.loop-left-preserved
loop-left-preserved c = search (rules, judging_step, c.in_ok-p.was)

pub returns-in_err-p : goal.returns-in_err-p
returns-in_err-p c =
    let p = err_from_is_err_and c.from_residual.result c.from_residual.ensures.1 in
    rw (p.1, p.2) (judging_bad _ _ _ _ _ _ c.loop-left.invariant c.loop-left-test.true _ c.read_run.ensures _ c.in_err-p.was)

pub returns : goal.returns
returns c = search (rules, judging_end)
