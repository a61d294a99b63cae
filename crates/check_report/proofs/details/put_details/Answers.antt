-- `put_details`: each answer of the check.
use mathlib.Core.Path.{ap, ◌∙◌}
use Rattle.std.specs.Prelude.{Err}
use borrow.Author.Rules.{rules}
use Rattle.check_report.proofs.Saying.{passed_plain, refused_put, breach_put}
use Rattle.check_report.proofs.details.put_details.Goals as goal

pub returns-in-Ok : goal.returns-in-Ok
returns-in-Ok c = search (rules, passed_plain)

pub returns-in-Err-Refused : goal.returns-in-Err-Refused
returns-in-Err-Refused c = let is = c.in-Err-Refused.is ∙ ap Err (rw c.in-Err-Refused.is at c.in-Err-Refused.field-0-is) in search (rules, refused_put)

pub returns-in-Err-Breaks : goal.returns-in-Err-Breaks
returns-in-Err-Breaks c = let is = c.in-Err-Breaks.is ∙ ap Err (rw c.in-Err-Breaks.is at c.in-Err-Breaks.field-0-is) in search (rules, breach_put)
