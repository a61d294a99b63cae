-- `put_part`: its kind, and the text behind it.
use Rattle.notes.proofs.Shown.{part_is}
use borrow.Author.Rules.{rules}
use Rattle.notes.proofs.put_part.Goals as goal

pub returns : goal.returns
returns c = search (rules, part_is)
