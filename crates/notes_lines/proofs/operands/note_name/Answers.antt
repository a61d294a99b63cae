-- `note_name`: the name behind its mark.
use Rattle.model.specs.Basics.{ascii}
use Rattle.notes_lines.proofs.Named.{name_noted}
use borrow.Author.Rules.{rules}
use Rattle.notes_lines.proofs.operands.note_name.Goals as goal

pub returns : goal.returns
unfolding ascii
returns c = search (rules, name_noted)
