-- `embed_code::current_offset` meets its contract.
use Rattle.model.specs.declared.Vm.{Vm}
use Rattle.model.specs.Emission.{current_offset_of}
use Rattle.embed_words.specs.Coding.{told_coded}
use Rattle.laws_embed.proofs.Through.{is_through}
use Rattle.embed_code.proofs.current_offset.Goals as goal

pub returns : goal.returns
returns c =
    is_through _ _ _ _ c.slices_refusal-why.ensures c.vm_of-m.ensures
    (λ (x : Vm). current_offset_of x.program c.args.functions.now) told_coded
    c.current_offset-told.ensures (c.answer_told.ensures _)
