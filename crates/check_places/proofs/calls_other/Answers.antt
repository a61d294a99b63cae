-- `calls_other`: a Call, and anything else.
use borrow.Author.Rules.{rules}
use Rattle.check_places.proofs.Calling.{no_call, a_call}
use Rattle.check_places.proofs.calls_other.Goals as goal

pub returns-then-b-eq-CALL : goal.returns-then-b-eq-CALL
returns-then-b-eq-CALL c = search (rules, a_call)

pub returns : goal.returns
returns c = search (rules, no_call)
