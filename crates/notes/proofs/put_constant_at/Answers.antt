-- `put_constant_at`: a constant, or that there is none.
use Rattle.model.specs.Basics.{ascii}
use Rattle.notes.proofs.Shown.{known_constant, no_constant}
use borrow.Author.Rules.{rules}
use Rattle.notes.proofs.put_constant_at.Goals as goal

pub returns-then-k-n : goal.returns-then-k-n
returns-then-k-n c = search (rules, known_constant)

pub returns : goal.returns
unfolding ascii
returns c = search (rules, no_constant)
