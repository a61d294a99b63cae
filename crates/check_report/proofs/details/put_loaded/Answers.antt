-- `put_loaded`: each answer of loading.
use borrow.Author.Rules.{rules}
use Rattle.check_report.proofs.Saying.{loaded_put, refused_unput}
use Rattle.check_report.proofs.details.put_loaded.Goals as goal

pub returns-in-Ok : goal.returns-in-Ok
returns-in-Ok c = search (rules, loaded_put)

pub returns-in-Err : goal.returns-in-Err
returns-in-Err c = search (rules, refused_unput)
