-- `flaw_for`: of rule 6 alone.
use Rattle.check_report.proofs.Saying.{flaw_asked, flaw_unasked}
use borrow.Author.Rules.{rules}
use Rattle.check_report.proofs.details.flaw_for.Goals as goal

pub returns-in-Heights : goal.returns-in-Heights
returns-in-Heights c = search (rules, flaw_asked)

pub returns-in_default : goal.returns-in_default
returns-in_default c = search (rules, flaw_unasked)
