-- `embed_reading::last_result` meets its contract.
use Rattle.model.specs.Readers.{last_result_of}
use Rattle.embed_words.specs.Coding.{shown_coded}
use Rattle.laws_embed.proofs.Through.{is_through}
use Rattle.embed_reading.proofs.last_result.Goals as goal

pub returns : goal.returns
returns c =
    is_through _ _ _ _ c.slices_refusal-why.ensures c.vm_of-m.ensures last_result_of shown_coded
    c.last_result-shown.ensures (c.answer_told.ensures _)
