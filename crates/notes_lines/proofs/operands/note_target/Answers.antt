-- `note_target`: the position behind its mark.
use Rattle.model.specs.Basics.{ascii}
use Rattle.notes_lines.proofs.Named.{target_noted}
use borrow.Author.Rules.{rules}
use Rattle.notes_lines.proofs.operands.note_target.Goals as goal

pub returns : goal.returns
unfolding ascii
returns c = search (rules, target_noted)
