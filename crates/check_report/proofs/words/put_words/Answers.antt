-- `put_words`: each answer.
use mathlib.Core.Path.{ap, ◌∙◌}
use Rattle.std.specs.Prelude.{Err}
use borrow.Author.Rules.{rules}
use Rattle.check_report.proofs.Lines.{passed_told, refused_told_lem, breach_told}
use Rattle.check_report.proofs.words.put_words.Goals as goal

pub returns-in-Ok : goal.returns-in-Ok
returns-in-Ok c = search (rules, passed_told)

pub returns-in-Err-Refused : goal.returns-in-Err-Refused
returns-in-Err-Refused c = let is = c.in-Err-Refused.is ∙ ap Err (rw c.in-Err-Refused.is at c.in-Err-Refused.field-0-is) in search (rules, refused_told_lem)

pub returns-in-Err-Breaks : goal.returns-in-Err-Breaks
returns-in-Err-Breaks c = let is = c.in-Err-Breaks.is ∙ ap Err (rw c.in-Err-Breaks.is at c.in-Err-Breaks.field-0-is) in search (rules, breach_told)
