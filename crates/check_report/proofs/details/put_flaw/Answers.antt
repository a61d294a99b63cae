-- `put_flaw`: each flaw.
use mathlib.Core.Path.{ap, ◌∙◌}
use Rattle.std.specs.Prelude.{Some}
use Rattle.check_report.proofs.Saying.{nothing_said, lacks_said, differs_said, ends_said}
use borrow.Author.Rules.{rules}
use Rattle.check_report.proofs.details.put_flaw.Goals as goal

pub returns-in-None : goal.returns-in-None
returns-in-None c = search (rules, nothing_said)

pub returns-in-Some-Lacks : goal.returns-in-Some-Lacks
returns-in-Some-Lacks c = let is = c.in-Some-Lacks.is ∙ ap Some (rw c.in-Some-Lacks.is at c.in-Some-Lacks.field-0-is) in search (rules, lacks_said)

pub returns-in-Some-Differs : goal.returns-in-Some-Differs
returns-in-Some-Differs c = let is = c.in-Some-Differs.is ∙ ap Some (rw c.in-Some-Differs.is at c.in-Some-Differs.field-0-is) in search (rules, differs_said)

pub returns-in-Some-Ends : goal.returns-in-Some-Ends
returns-in-Some-Ends c = let is = c.in-Some-Ends.is ∙ ap Some (rw c.in-Some-Ends.is at c.in-Some-Ends.field-0-is) in search (rules, ends_said)
