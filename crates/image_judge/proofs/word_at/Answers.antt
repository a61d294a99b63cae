-- `image_judge::word_at` meets its contract.
use mathlib.Core.Path.{ap, ◌∙◌}
use Rattle.model.specs.Images.{word_of}
use Rattle.image_judge.proofs.Items.{part_slice, word_read}
use Rattle.image_judge.proofs.word_at.Goals as goal

pub returns : goal.returns
returns c =
    c.from_le_bytes.ensures ∙ word_read c.copy_from_slice.new.self c.copy_from_slice.ensures.len
    ∙ ap word_of (c.copy_from_slice.ensures.after ∙ part_slice c.args.image.now c.args.at 8)
