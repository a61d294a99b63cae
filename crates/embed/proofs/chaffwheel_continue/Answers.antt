-- `chaffwheel_continue`: what crosses refuses, else the run goes on in the record's machine.
use Rattle.embed.proofs.Own.{continue_says}
use Rattle.embed.proofs.Through.{run_through, run_refused}
use Rattle.embed.proofs.chaffwheel_continue.Goals as goal

pub returns-then-why-eq0 : goal.returns-then-why-eq0
returns-then-why-eq0 c =
    run_through _ _ _ _ _ _ c.slices_refusal-why.ensures c.if-why-eq0.true _ c.vm_of-m.ensures _ _
    c.continue_run-result.ensures _ c.tell_run.ensures

pub returns : goal.returns
returns c =
    run_refused _ _ _ _ _ _ c.slices_refusal-why.ensures c.if-why-eq0.false _ c.vm_of-m.ensures _
    (continue_says _ _ _ c.args.units c.order-good.result (c.order-good.ensures c.args.trace.now)) _ c.crossed_idle.ensures
