-- `chaffwheel_load`: a record that refuses is told, unless the image is broken, else the machine that is made.
use Rattle.embed.proofs.Through.{start_through_lem, start_refused}
use Rattle.embed.proofs.chaffwheel_load.Goals as goal

pub returns-then-why-eq0 : goal.returns-then-why-eq0
returns-then-why-eq0 c =
    start_through_lem _ _ _ _ _ _ c.out_refusal-why.ensures c.if-why-eq0.true _ _ _ c.load-made.ensures _
    c.tell_started.ensures

pub returns : goal.returns
returns c =
    start_refused _ _ _ _ _ _ c.out_refusal-why.ensures c.if-why-eq0.false _
    (c.unloaded.ensures c.args.vm.now _ c.args.frames.now)
