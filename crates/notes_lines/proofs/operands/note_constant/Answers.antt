-- `note_constant`: the constant behind its mark.
use Rattle.model.specs.Basics.{ascii}
use Rattle.notes_lines.proofs.Named.{constant_noted}
use borrow.Author.Rules.{rules}
use Rattle.notes_lines.proofs.operands.note_constant.Goals as goal

pub returns : goal.returns
unfolding ascii
returns c = search (rules, constant_noted)
