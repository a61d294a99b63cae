-- `embed_code::patch_u16_value_at` meets its contract.
use Rattle.laws_embed.proofs.Says.{patch_says}
use Rattle.laws_embed.proofs.Through.{emit_refused, emit_through_lem}
use Rattle.embed_code.proofs.patch_u16_value_at.Goals as goal

pub returns-then-why-eq0 : goal.returns-then-why-eq0
returns-then-why-eq0 c =
    λ rest. emit_through_lem _ _ _ c.slices_refusal-why.ensures _ _ c.if-why-eq0.true c.vm_of-m.ensures
    (c.patch_u16_value_at-done.ensures rest).means c.tell_emitted.ensures

pub returns : goal.returns
returns c =
    λ rest. emit_refused _ _ _ c.slices_refusal-why.ensures _ _ c.if-why-eq0.false c.vm_of-m.ensures _
    (patch_says _ _ _ _ (c.patch_order-good.ensures rest) _ _) c.crossed_running.ensures
