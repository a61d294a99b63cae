-- `chaffwheel_backtrace`: what crosses refuses, else the backtrace of the record's machine.
use mathlib.Core.Path.{sym, ◌∙◌}
use Rattle.embed_answers.specs.Telling.{told_is}
use Rattle.laws_embed.proofs.Through.{out_through_lem, out_refused}
use Rattle.embed.proofs.Own.{trace_says}
use Rattle.embed.proofs.chaffwheel_backtrace.Goals as goal

pub returns-then-why-eq0 : goal.returns-then-why-eq0
returns-then-why-eq0 c =
    λ structs constants. out_through_lem _ _ _ _ _ c.slices_refusal-why.ensures c.if-why-eq0.true _ c.vm_of-m.ensures _ _
    (c.backtrace-told.ensures structs constants) _ (c.tell.ensures c.args.vm.now ∙ sym (told_is _ _ _))

pub returns : goal.returns
returns c =
    λ structs constants. out_refused _ _ _ _ _ c.slices_refusal-why.ensures c.if-why-eq0.false _ c.vm_of-m.ensures _
    (trace_says _ _ _ _ _ c.trace_order-good.result (c.trace_order-good.ensures structs constants)) _
    c.crossed_order.ensures
