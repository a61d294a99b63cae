-- `put_report`: each answer's lines.
use native.Mathlib.Omega.{arith}
use mathlib.Core.Path.{ap, ◌∙◌}
use borrow.Author.Rules.{rules}
use Rattle.std.specs.Prelude.{Ok}
use Rattle.model.specs.Basics.{ascii}
use Rattle.report_lines.proofs.Lines.{cells_inside, entries_inside, paused_report, refused_report, value_report, continue_report, fault_report}
use Rattle.report_lines.proofs.runs.put_report.Goals as goal

pub put_answer-next-requires : goal.put_answer-next-requires
put_answer-next-requires c = let is = c.in-Ok-Value.is ∙ ap Ok (rw c.in-Ok-Value.is at c.in-Ok-Value.field-0-is) in search (rules, cells_inside)

pub put_entries-requires : goal.put_entries-requires
put_entries-requires c =
    let h =
    entries_inside c.requires (c.in-Ok-Fault.is ∙ ap Ok (rw c.in-Ok-Fault.is at c.in-Ok-Fault.field-0-is)) in
    let l = c.requires.small in (
      h,
      omega (
        arith,
        c.put_spent-next.ensures.near,
        c.put_line-spent.ensures.near,
      ),
    )

pub returns-in-Ok-Value : goal.returns-in-Ok-Value
unfolding ascii
returns-in-Ok-Value c = let is = c.in-Ok-Value.is ∙ ap Ok (rw c.in-Ok-Value.is at c.in-Ok-Value.field-0-is) in search (rules, value_report)

pub returns-in-Ok-Continue : goal.returns-in-Ok-Continue
unfolding ascii
returns-in-Ok-Continue c = let is = c.in-Ok-Continue.is ∙ ap Ok (rw c.in-Ok-Continue.is at c.in-Ok-Continue.field-0-is) in search (rules, continue_report)

pub returns-in-Ok-Fault : goal.returns-in-Ok-Fault
unfolding ascii
returns-in-Ok-Fault c = let is = c.in-Ok-Fault.is ∙ ap Ok (rw c.in-Ok-Fault.is at c.in-Ok-Fault.field-0-is) in search (rules, fault_report, entries_inside)

pub returns-in-Ok-Paused : goal.returns-in-Ok-Paused
returns-in-Ok-Paused c = let is = c.in-Ok-Paused.is ∙ ap Ok (rw c.in-Ok-Paused.is at c.in-Ok-Paused.field-0-is) in search (rules, paused_report)

pub returns-in-Err : goal.returns-in-Err
returns-in-Err c = search (rules, refused_report)
