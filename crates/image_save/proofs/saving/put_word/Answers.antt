-- `image_save::saving::put_word` meets its contract.
use Rattle.image_save.proofs.Putting.{put_as, word_bytes, word_near}
use mathlib.Core.Path.{◌∙◌}
use Rattle.image_save.proofs.saving.put_word.Goals as goal

pub put_part-requires : goal.put_part-requires
put_part-requires c = word_near _ _ _ _ c.to_le_bytes.ensures c.requires

pub returns : goal.returns
returns c = put_as _ _ _ _ _ _ (c.to_le_bytes.ensures ∙ word_bytes c.args.w) c.put_part.ensures
