-- `embed_tables::get_function_idx` meets its contract.
use Rattle.model.specs.declared.Vm.{Vm}
use Rattle.model.specs.Emission.{function_idx_of}
use Rattle.layout.specs.Links.{names_lent}
use Rattle.embed_words.specs.Coding.{told_coded}
use Rattle.laws_embed.proofs.Through.{is_through}
use Rattle.embed_tables.proofs.get_function_idx.Goals as goal

pub returns : goal.returns
returns c =
    λ rest. is_through _ _ _ _ c.slices_refusal-why.ensures c.vm_of-m.ensures
    (λ (x : Vm). function_idx_of x.program c.args.name.now
    (names_lent rest c.args.functions.now c.args.text.now)) told_coded
    (c.get_function_idx-told.ensures rest) (c.answer_told.ensures _)
