-- `image_judge::check_constants` meets its contract.
use Rattle.image_judge.proofs.Passes.{counted_at, constants_start, constants_none, constants_end, constants_bad, constants_step}
use Rattle.std.proofs.Common.{rules}
use Rattle.std.proofs.lemmas.Result.{err_from_is_err_and}
use Rattle.image_judge.proofs.check_constants.Goals as goal

pub returns-in_default : goal.returns-in_default
returns-in_default c = search (rules, constants_none)

pub loop-init : goal.loop-init
loop-init c = constants_start _ _ _ (counted_at _ _ _ c.read_number.ensures _ _ _ c.in-Some.is c.wide-count.ensures).within

pub returns-in_err-p : goal.returns-in_err-p
returns-in_err-p c =
    let p = err_from_is_err_and c.from_residual.result c.from_residual.ensures.1 in
    rw (p.1, p.2)
    (constants_bad _ _ _ _ (counted_at _ _ _ c.read_number.ensures _ _ _ c.in-Some.is c.wide-count.ensures) _ _ _
    c.loop.invariant c.loop-test.true _ c.read_constant.ensures _ c.in_err-p.was)

pub loop-preserved : goal.loop-preserved
loop-preserved c =
    constants_step _ _ _ _ (counted_at _ _ _ c.read_number.ensures _ _ _ c.in-Some.is c.wide-count.ensures) _ _ _
    c.loop.invariant c.loop-test.true _ c.read_constant.ensures _ c.in_ok-p.was

pub returns : goal.returns
returns c = search (rules, constants_end, counted_at)
