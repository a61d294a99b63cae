-- `image_judge::check_others` meets its contract.
use Rattle.image_judge.proofs.Functions.{others_start, others_end, others_bad, others_step}
use Rattle.std.proofs.Common.{rules}
use Rattle.std.proofs.lemmas.Result.{err_from_is_err_and}
use Rattle.image_judge.proofs.check_others.Goals as goal

pub loop-init : goal.loop-init
loop-init c = others_start _ _ _ c.requires

pub returns-in_err-p : goal.returns-in_err-p
returns-in_err-p c =
    let p = err_from_is_err_and c.from_residual.result c.from_residual.ensures.1 in
    rw (p.1, p.2) (others_bad _ _ _ _ _ _ _ _ c.loop.invariant c.loop-test.true _ c.check_function.ensures _ c.in_err-p.was)

pub loop-preserved : goal.loop-preserved
loop-preserved c = others_step _ _ _ _ _ _ _ _ c.loop.invariant c.loop-test.true _ c.check_function.ensures _ c.in_ok-p.was

pub returns : goal.returns
returns c = search (rules, others_end)
