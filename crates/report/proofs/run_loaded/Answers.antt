-- `run_loaded`: each answer of loading.
use Rattle.report.proofs.Runner.{done_run, refused_run_lem}
use Rattle.report.proofs.run_loaded.Goals as goal

pub returns-in-Ok : goal.returns-in-Ok
returns-in-Ok c = done_run _ _ c.in-Ok.is c.run_program.ensures

pub returns-in-Err : goal.returns-in-Err
returns-in-Err c = refused_run_lem _ _ c.in-Err.is c.print_refused.ensures
