-- `machine::continue_run` meets its contract.
use Rattle.layout.specs.Lent.{stores_in}
use Rattle.std.proofs.Common.{refl}
use Rattle.std.proofs.lemmas.Result.{err_from_is_err_and}
use Rattle.model.specs.Machines.{continues}
use Rattle.machine.specs.Links.{run_lent}
use Rattle.machine.proofs.Granted.{refused_with, granted_by}
use Rattle.machine.proofs.continue_run.Goals as goal

pub returns-in_err-may_continue : goal.returns-in_err-may_continue
returns-in_err-may_continue c =
    let p = err_from_is_err_and c.from_residual.result c.from_residual.ensures.1 in
    rw (p.1, p.2) (refused_with c.args.m (stores_in c.args.stores.now) (run_lent c.args.stack.now c.args.cells.now c.args.frames.now c.args.copy.now c.args.backtrace.now) (continues c.args.units) (c.in_err-may_continue.ensures (stores_in c.args.stores.now) (run_lent c.args.stack.now c.args.cells.now c.args.frames.now c.args.copy.now c.args.backtrace.now) (c.order-good.ensures c.args.backtrace.now) (unfold run_lent in refl) (unfold run_lent in refl)))

pub go-requires : goal.go-requires
go-requires c =
    granted_by c.args.m (stores_in c.args.stores.now) (run_lent c.args.stack.now c.args.cells.now c.args.frames.now c.args.copy.now c.args.backtrace.now) (continues c.args.units) (c.in_ok-may_continue.ensures (stores_in c.args.stores.now) (run_lent c.args.stack.now c.args.cells.now c.args.frames.now c.args.copy.now c.args.backtrace.now) (c.order-good.ensures c.args.backtrace.now) (unfold run_lent in refl) (unfold run_lent in refl))
