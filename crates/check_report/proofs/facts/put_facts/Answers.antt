-- `put_facts`: each answer.
use mathlib.Core.Path.{ap, ◌∙◌}
use Rattle.std.specs.Prelude.{Err}
use borrow.Author.Rules.{rules}
use native.Mathlib.Omega.{arith}
use Rattle.model.specs.Basics.{ascii}
use Rattle.check_report.proofs.Lines.{heights_inside, passed_facts, refused_facts_lem, breach_facts}
use Rattle.check_report.proofs.facts.put_facts.Goals as goal

pub put_heights-requires : goal.put_heights-requires
put_heights-requires c =
    let h = heights_inside c.requires c.in-Ok.is in
    let l = c.requires.small in
    (h, omega (arith, c.put_text-next.ensures.near))

pub returns-in-Ok : goal.returns-in-Ok
unfolding ascii
returns-in-Ok c = search (rules, passed_facts, heights_inside)

pub returns-in-Err-Refused : goal.returns-in-Err-Refused
returns-in-Err-Refused c = let is = c.in-Err-Refused.is ∙ ap Err (rw c.in-Err-Refused.is at c.in-Err-Refused.field-0-is) in search (rules, refused_facts_lem)

pub returns-in-Err-Breaks : goal.returns-in-Err-Breaks
returns-in-Err-Breaks c = let is = c.in-Err-Breaks.is ∙ ap Err (rw c.in-Err-Breaks.is at c.in-Err-Breaks.field-0-is) in search (rules, breach_facts)
