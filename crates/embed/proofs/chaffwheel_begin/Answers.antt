-- `chaffwheel_begin`: what crosses refuses, else the run is begun in the record's machine.
use Rattle.embed.proofs.Own.{begin_says}
use Rattle.embed.proofs.Through.{run_through, run_refused}
use Rattle.embed.proofs.chaffwheel_begin.Goals as goal

pub returns-then-why-eq0 : goal.returns-then-why-eq0
returns-then-why-eq0 c =
    λ trace. run_through _ _ _ _ _ _ c.slices_refusal-why.ensures c.if-why-eq0.true _ c.vm_of-m.ensures _ _
    (c.begin-result.ensures trace) _ c.tell_run.ensures

pub returns : goal.returns
returns c =
    λ trace. run_refused _ _ _ _ _ _ c.slices_refusal-why.ensures c.if-why-eq0.false _ c.vm_of-m.ensures _
    (begin_says _ _ _ c.order-good.result (c.order-good.ensures trace)) _ c.crossed_running.ensures
