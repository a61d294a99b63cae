-- `write_noted_line`: the notes over the newline.
use Rattle.notes_lines.proofs.Whole.{noted_line_is}
use borrow.Author.Rules.{rules}
use Rattle.notes_lines.proofs.write_noted_line.Goals as goal

pub returns : goal.returns
returns c = search (rules, noted_line_is)
