-- `operand`: two bytes.
use mathlib.Core.Path.{refl, ◌∙◌}
use Rattle.listing.proofs.Pieces.{word_is}
use Rattle.listing.proofs.lines.operand.Goals as goal

pub returns : goal.returns
returns c = c.from.ensures ∙ c.from_le_bytes.ensures ∙ word_is _ _ refl refl
