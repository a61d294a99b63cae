-- `first_call`: an instruction a turn.
use Rattle.check_code.proofs.Instructions.{nearer}
use Rattle.check_places.proofs.Calling.{none_looked_at, none_calls, one_calls, one_passed_over}
use Rattle.std.proofs.Common.{rules}
use Rattle.check_places.proofs.first_call.Goals as goal

pub loop-at-init : goal.loop-at-init
loop-at-init c = none_looked_at _ _ _ _

pub returns-then-calls_other : goal.returns-then-calls_other
returns-then-calls_other c = search (rules, one_calls)

pub loop-at-smaller : goal.loop-at-smaller
loop-at-smaller c = search (rules, nearer)

pub loop-at-preserved : goal.loop-at-preserved
loop-at-preserved c = search (rules, one_passed_over)

pub returns : goal.returns
returns c = search (rules, none_calls)
