-- `embed_tables::end_function` meets its contract.
use Rattle.model.specs.declared.Vm.{Vm}
use Rattle.model.specs.Emission.{end_function_of}
use Rattle.laws_embed.proofs.Says.{end_says}
use Rattle.laws_embed.proofs.Through.{emits, emits_not}
use Rattle.embed_tables.proofs.end_function.Goals as goal

pub returns-then-why-eq0 : goal.returns-then-why-eq0
returns-then-why-eq0 c =
    emits _ _ _ c.slices_refusal-why.ensures c.vm_of-m.ensures (λ (x : Vm). end_function_of x.run.on x.program) c.if-why-eq0.true
    c.end_function-done.ensures c.tell_emitted.ensures

pub returns : goal.returns
returns c =
    emits_not _ _ _ c.slices_refusal-why.ensures c.vm_of-m.ensures
    (λ (x : Vm). end_function_of x.run.on x.program)
    c.if-why-eq0.false _ (end_says _ _ _ c.counts_ok-good.ensures) c.crossed_running.ensures
