-- `list_loaded`: each answer of loading.
use borrow.Author.Rules.{rules}
use Rattle.report_listed.proofs.Listed.{done_printed, refused_printed, can_list}
use Rattle.report_listed.proofs.list_loaded.Goals as goal

pub list_program-requires : goal.list_program-requires
list_program-requires c = λ rest. can_list _ (c.requires rest) c.in-Ok.is

pub returns-in-Ok : goal.returns-in-Ok
returns-in-Ok c = λ rest. done_printed _ _ c.in-Ok.is (c.list_program.ensures rest)

pub returns-in-Err : goal.returns-in-Err
returns-in-Err c = search (rules, refused_printed)
