-- `put_name_at`: a name, or that there is none.
use Rattle.notes.proofs.Shown.{known_name, no_name}
use borrow.Author.Rules.{rules}
use Rattle.notes.proofs.put_name_at.Goals as goal

pub returns-then-k-n : goal.returns-then-k-n
returns-then-k-n c = search (rules, known_name)

pub returns : goal.returns
returns c = search (rules, no_name)
