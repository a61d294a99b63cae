-- `embed_code::add_op3` meets its contract.
use Rattle.laws_embed.proofs.Says.{add_op3_says}
use Rattle.laws_embed.proofs.Through.{emit_refused, emit_through_lem}
use Rattle.embed_code.proofs.add_op3.Goals as goal

pub returns-then-why-eq0 : goal.returns-then-why-eq0
returns-then-why-eq0 c =
    λ rest. emit_through_lem _ _ _ c.slices_refusal-why.ensures _ _ c.if-why-eq0.true c.vm_of-m.ensures
    (c.add_op3-done.ensures rest).means c.tell_emitted.ensures

pub returns : goal.returns
returns c =
    λ rest. emit_refused _ _ _ c.slices_refusal-why.ensures _ _ c.if-why-eq0.false c.vm_of-m.ensures _
    (add_op3_says _ _ _ _ (c.code_order-good.ensures rest) _ _ _ _ _) c.crossed_running.ensures
