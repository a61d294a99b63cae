-- `note_place`: the place behind its mark.
use Rattle.model.specs.Basics.{ascii}
use Rattle.notes_lines.proofs.Whole.{place_noted}
use borrow.Author.Rules.{rules}
use Rattle.notes_lines.proofs.note_place.Goals as goal

pub returns : goal.returns
unfolding ascii
returns c = search (rules, place_noted)
