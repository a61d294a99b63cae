-- `run_program`: what the run answers, printed.
use Rattle.report.proofs.Runner.{can_print, report_printed}
use Rattle.report.proofs.run_program.Goals as goal

pub print_report-requires : goal.print_report-requires
print_report-requires c =
    can_print c.args.stores.now _ _ c.fresh_vm-m.ensures _ _ _ _ _ c.play-r.ensures c.code_is_bytes.ensures.main c.code_is_bytes.ensures.other

pub returns : goal.returns
returns c = report_printed c.args.stores.now _ _ c.fresh_vm-m.ensures _ _ _ _ _ c.play-r.ensures _ c.print_report.ensures
