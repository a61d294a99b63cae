-- `word_at`: two bytes.
use mathlib.Core.Path.{◌∙◌}
use borrow.Author.Rules.{rules}
use Rattle.listing.proofs.Pieces.{word_is}
use Rattle.notes_lines.proofs.operands.word_at.Goals as goal

pub returns : goal.returns
returns c = (c.from.ensures ∙ c.from_le_bytes.ensures ∙ word_is _ _ c.byte_at.ensures c.byte_at-2.ensures, search rules)
