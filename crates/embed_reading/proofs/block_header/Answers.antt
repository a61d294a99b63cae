-- `embed_reading::block_header` meets its contract.
use mathlib.Core.Path.{ap, ◌∙◌}
use Rattle.model.specs.declared.Value.{Value}
use Rattle.model.specs.declared.Vm.{Vm}
use Rattle.model.specs.Values.{value_of}
use Rattle.model.specs.Readers.{block_header_of}
use Rattle.embed_words.specs.Coding.{headed_coded}
use Rattle.laws_embed.proofs.Through.{is_through}
use Rattle.embed_reading.proofs.block_header.Goals as goal

pub returns : goal.returns
returns c =
    is_through _ _ _ _ c.value_refusal-why.ensures c.vm_of-m.ensures
    (λ (x : Vm). block_header_of x (value_of c.args.kind c.args.payload) c.args.cells.now)
    headed_coded
    (c.block_header-headed.ensures ∙ ap
    (λ (v : Value). block_header_of c.vm_of-m.result v c.args.cells.now) c.value_of-v.ensures)
    (c.answer_told.ensures _)
