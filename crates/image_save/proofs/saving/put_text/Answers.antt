-- `image_save::saving::put_text` meets its contract.
use Rattle.image_save.proofs.Putting.{text_split, front, back, both}
use Rattle.std.proofs.Common.{rules}
use Rattle.image_save.proofs.saving.put_text.Goals as goal

pub put_number-mid-requires : goal.put_number-mid-requires
put_number-mid-requires c = front _ _ _ _ (text_split _) c.requires.near

pub put_part-requires : goal.put_part-requires
put_part-requires c = search (rules, back, text_split)

pub returns : goal.returns
returns c = search (rules, both, text_split)
