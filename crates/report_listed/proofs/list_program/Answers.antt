-- `list_program`: what the listing answers.
use borrow.Author.Rules.{rules}
use Rattle.report_listed.proofs.Listed.{was_listed, did_not_fit, not_listed, other_refusal}
use Rattle.report_listed.proofs.list_program.Goals as goal

pub returns-in-Ok : goal.returns-in-Ok
returns-in-Ok c = λ rest. was_listed _ _ (c.requires rest) _ (c.disassemble.ensures rest) c.in-Ok.is

pub returns-in-Err-ResultTooShort : goal.returns-in-Err-ResultTooShort
returns-in-Err-ResultTooShort c =
    λ rest. did_not_fit _ _ (c.requires rest) _ (c.disassemble.ensures rest) c.in-Err-ResultTooShort.is c.in-Err-ResultTooShort.field-0-is

pub returns-in-Err : goal.returns-in-Err
returns-in-Err c =
    λ rest. not_listed _ _ (c.requires rest) _ (c.disassemble.ensures rest) c.in-Err.is (other_refusal (search rules)) c.print_refused.ensures
