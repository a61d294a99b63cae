-- `call_at`: CallCallable, Call, and the others.
use borrow.Author.Rules.{rules}
use Rattle.check_code.proofs.Tests.{is_callable, is_call, is_no_call}
use Rattle.check_code.proofs.call_at.Goals as goal

pub returns-then-b-eq-CALL_CALLABLE : goal.returns-then-b-eq-CALL_CALLABLE
returns-then-b-eq-CALL_CALLABLE c = search (rules, is_callable)

pub returns-then-b-eq-CALL : goal.returns-then-b-eq-CALL
returns-then-b-eq-CALL c = search (rules, is_call)

pub returns : goal.returns
returns c = search (rules, is_no_call)
