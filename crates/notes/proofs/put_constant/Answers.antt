-- `put_constant`: a text for each kind.
use Rattle.model.specs.Basics.{ascii}
use Rattle.notes.proofs.Shown.{scalar_is, false_is, true_is, string_is, reference_is}
use borrow.Author.Rules.{rules}
use Rattle.notes.proofs.put_constant.Goals as goal

pub returns-in-0 : goal.returns-in-0
unfolding ascii
returns-in-0 c = search (rules, scalar_is)

pub returns-in-1 : goal.returns-in-1
unfolding ascii
returns-in-1 c = search (rules, false_is)

pub returns-in-1-2 : goal.returns-in-1-2
unfolding ascii
returns-in-1-2 c = search (rules, true_is)

pub returns-in-2 : goal.returns-in-2
unfolding ascii
returns-in-2 c = search (rules, string_is)

pub returns-in_default : goal.returns-in_default
unfolding ascii
returns-in_default c = search (rules, reference_is)
