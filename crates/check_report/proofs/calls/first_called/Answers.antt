-- `first_called`: a function a turn.
use borrow.Author.Rules.{rules}
use Rattle.check_report.proofs.Calling.{none_sought, none_found, one_found, one_passed_over}
use Rattle.check_report.proofs.calls.first_called.Goals as goal

pub loop-g-init : goal.loop-g-init
loop-g-init c = none_sought _ _ _ _ _ _ _

pub returns-then-i-code : goal.returns-then-i-code
returns-then-i-code c = search (rules, one_found)

pub loop-g-preserved : goal.loop-g-preserved
loop-g-preserved c = search (rules, one_passed_over)

pub returns : goal.returns
returns c = search (rules, none_found)
