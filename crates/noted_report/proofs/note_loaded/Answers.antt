-- `note_loaded`: each answer of loading.
use Rattle.noted_report.proofs.Prints.{done_printed, refused_printed, can_note}
use Rattle.noted_report.proofs.note_loaded.Goals as goal

pub note_program-requires : goal.note_program-requires
note_program-requires c = can_note _ c.requires c.in-Ok.is

pub returns-in-Ok : goal.returns-in-Ok
returns-in-Ok c = done_printed _ _ c.in-Ok.is c.note_program.ensures

pub returns-in-Err : goal.returns-in-Err
returns-in-Err c = refused_printed _ _ c.in-Err.is c.print_refused.ensures
