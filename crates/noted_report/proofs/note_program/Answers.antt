-- `note_program`: what the listing with notes answers.
use borrow.Author.Rules.{rules}
use Rattle.report_listed.proofs.Listed.{other_refusal}
use Rattle.noted_report.proofs.Prints.{was_noted, did_not_fit, not_noted}
use Rattle.noted_report.proofs.note_program.Goals as goal

pub returns-in-Ok : goal.returns-in-Ok
returns-in-Ok c = was_noted _ _ c.requires _ c.list_with_notes.ensures c.in-Ok.is

pub returns-in-Err-ResultTooShort : goal.returns-in-Err-ResultTooShort
returns-in-Err-ResultTooShort c =
    did_not_fit _ _ c.requires _ c.list_with_notes.ensures c.in-Err-ResultTooShort.is c.in-Err-ResultTooShort.field-0-is

pub returns-in-Err : goal.returns-in-Err
returns-in-Err c = not_noted _ _ c.requires _ c.list_with_notes.ensures c.in-Err.is (other_refusal (search rules)) c.print_refused.ensures
