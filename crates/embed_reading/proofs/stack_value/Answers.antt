-- `embed_reading::stack_value` meets its contract.
use Rattle.model.specs.declared.Vm.{Vm}
use Rattle.model.specs.Readers.{stack_value_of}
use Rattle.embed_words.specs.Coding.{shown_coded}
use Rattle.laws_embed.proofs.Through.{is_through}
use Rattle.embed_reading.proofs.stack_value.Goals as goal

pub returns : goal.returns
returns c =
    is_through _ _ _ _ c.slices_refusal-why.ensures c.vm_of-m.ensures
    (λ (x : Vm). stack_value_of x c.args.i c.args.stack.now) shown_coded
    c.stack_value-shown.ensures (c.answer_told.ensures _)
