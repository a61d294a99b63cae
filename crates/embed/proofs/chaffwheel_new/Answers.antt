-- `chaffwheel_new`: a record that refuses is told, else the machine that is made.
use Rattle.embed.proofs.Own.{new_unmade}
use Rattle.embed.proofs.Through.{start_through_lem, start_refused}
use Rattle.embed.proofs.chaffwheel_new.Goals as goal

pub returns-then-why-eq0 : goal.returns-then-why-eq0
returns-then-why-eq0 c =
    λ rest. start_through_lem _ _ _ _ _ _ c.out_refusal-why.ensures c.if-why-eq0.true _ _ _ (c.new-made.ensures rest) _
    c.tell_started.ensures

pub returns : goal.returns
returns c =
    λ rest. start_refused _ _ _ _ _ _ c.out_refusal-why.ensures c.if-why-eq0.false _
    (new_unmade _ _ c.out_refusal-why.result c.args.vm.now c.args.answer.now)
