-- `machine::abandon` meets its contract: the machine stops before the instruction that it is at.
use Rattle.layout.specs.Lent.{program_lent, stores_in}
use Rattle.std.proofs.Common.{refl}
use Rattle.std.proofs.lemmas.Result.{err_from_is_err_and}
use Rattle.model.specs.Machines.{abandons}
use Rattle.machine.specs.Links.{run_lent}
use Rattle.machine.proofs.Granted.{refused_with, granted_by}
use Rattle.machine.proofs.Stops.{Stops, callers_small, frame_there, stack_there, trace_ready, run_stopped}
use Rattle.machine.proofs.Abandons.{current_ready, position_small}
use Rattle.machine.proofs.Abandons as ab
use Rattle.machine.proofs.abandon.Goals as goal

pub returns-in_err-may_abandon : goal.returns-in_err-may_abandon
returns-in_err-may_abandon c =
    let p = err_from_is_err_and c.from_residual.result c.from_residual.ensures.1 in
    rw (p.1, p.2) (refused_with c.args.m (stores_in c.args.stores.now) (run_lent c.args.stack.now c.args.cells.now c.args.frames.now c.args.copy.now c.args.backtrace.now) abandons (c.in_err-may_abandon.ensures (stores_in c.args.stores.now) (run_lent c.args.stack.now c.args.cells.now c.args.frames.now c.args.copy.now c.args.backtrace.now) (c.order-good.ensures c.args.backtrace.now) (unfold run_lent in refl) (unfold run_lent in refl)))

pub current-f-requires : goal.current-f-requires
current-f-requires c =
    unfold run_lent in current_ready c.args.m (stores_in c.args.stores.now) (run_lent c.args.stack.now c.args.cells.now c.args.frames.now c.args.copy.now c.args.backtrace.now) (granted_by c.args.m (stores_in c.args.stores.now) (run_lent c.args.stack.now c.args.cells.now c.args.frames.now c.args.copy.now c.args.backtrace.now) abandons (c.in_ok-may_abandon.ensures (stores_in c.args.stores.now) (run_lent c.args.stack.now c.args.cells.now c.args.frames.now c.args.copy.now c.args.backtrace.now) (c.order-good.ensures c.args.backtrace.now) (unfold run_lent in refl) (unfold run_lent in refl)))

pub cut_frame-cut-requires : goal.cut_frame-cut-requires
cut_frame-cut-requires c =
    rw c.current-f.ensures (unfold run_lent in position_small c.args.m (stores_in c.args.stores.now) (run_lent c.args.stack.now c.args.cells.now c.args.frames.now c.args.copy.now c.args.backtrace.now) (granted_by c.args.m (stores_in c.args.stores.now) (run_lent c.args.stack.now c.args.cells.now c.args.frames.now c.args.copy.now c.args.backtrace.now) abandons (c.in_ok-may_abandon.ensures (stores_in c.args.stores.now) (run_lent c.args.stack.now c.args.cells.now c.args.frames.now c.args.copy.now c.args.backtrace.now) (c.order-good.ensures c.args.backtrace.now) (unfold run_lent in refl) (unfold run_lent in refl))))

pub stop-requires : goal.stop-requires
stop-requires c =
    let h : Stops abandons c.args.m (stores_in c.args.stores.now) (run_lent c.args.stack.now c.args.cells.now c.args.frames.now c.args.copy.now c.args.backtrace.now) c.abandoned-g.result c.cut_frame-cut.result 13 c.args.stack.now c.args.cells.now c.args.frames.now = (rw (c.cut_frame-cut.ensures, c.current-f.ensures) (unfold run_lent program_lent in ab.abandons c.args.m (stores_in c.args.stores.now) (run_lent c.args.stack.now c.args.cells.now c.args.frames.now c.args.copy.now c.args.backtrace.now) (granted_by c.args.m (stores_in c.args.stores.now) (run_lent c.args.stack.now c.args.cells.now c.args.frames.now c.args.copy.now c.args.backtrace.now) abandons (c.in_ok-may_abandon.ensures (stores_in c.args.stores.now) (run_lent c.args.stack.now c.args.cells.now c.args.frames.now c.args.copy.now c.args.backtrace.now) (c.order-good.ensures c.args.backtrace.now) (unfold run_lent in refl) (unfold run_lent in refl))) (unfold program_lent in record { main = λ j h. c.code_is_bytes.ensures.main j; other = λ j h. c.code_is_bytes.ensures.other j }) c.abandoned-g.result
    (rw (c.cut_frame-cut.ensures, c.current-f.ensures) at c.abandoned-g.ensures))) in
    unfold run_lent program_lent in (callers_small abandons c.args.m (stores_in c.args.stores.now) (run_lent c.args.stack.now c.args.cells.now c.args.frames.now c.args.copy.now c.args.backtrace.now) c.abandoned-g.result c.cut_frame-cut.result 13 c.args.stack.now c.args.cells.now c.args.frames.now h, trace_ready abandons c.args.m (stores_in c.args.stores.now) (run_lent c.args.stack.now c.args.cells.now c.args.frames.now c.args.copy.now c.args.backtrace.now) c.abandoned-g.result c.cut_frame-cut.result 13 c.args.stack.now c.args.cells.now c.args.frames.now h, h.saved.copy, stack_there abandons c.args.m (stores_in c.args.stores.now) (run_lent c.args.stack.now c.args.cells.now c.args.frames.now c.args.copy.now c.args.backtrace.now) c.abandoned-g.result c.cut_frame-cut.result 13 c.args.stack.now c.args.cells.now c.args.frames.now h, frame_there abandons c.args.m (stores_in c.args.stores.now) (run_lent c.args.stack.now c.args.cells.now c.args.frames.now c.args.copy.now c.args.backtrace.now) c.abandoned-g.result c.cut_frame-cut.result 13 c.args.stack.now c.args.cells.now c.args.frames.now h)

pub returns : goal.returns
returns c =
    let h : Stops abandons c.args.m (stores_in c.args.stores.now) (run_lent c.args.stack.now c.args.cells.now c.args.frames.now c.args.copy.now c.args.backtrace.now) c.abandoned-g.result c.cut_frame-cut.result 13 c.args.stack.now c.args.cells.now c.args.frames.now = (rw (c.cut_frame-cut.ensures, c.current-f.ensures) (unfold run_lent program_lent in ab.abandons c.args.m (stores_in c.args.stores.now) (run_lent c.args.stack.now c.args.cells.now c.args.frames.now c.args.copy.now c.args.backtrace.now) (granted_by c.args.m (stores_in c.args.stores.now) (run_lent c.args.stack.now c.args.cells.now c.args.frames.now c.args.copy.now c.args.backtrace.now) abandons (c.in_ok-may_abandon.ensures (stores_in c.args.stores.now) (run_lent c.args.stack.now c.args.cells.now c.args.frames.now c.args.copy.now c.args.backtrace.now) (c.order-good.ensures c.args.backtrace.now) (unfold run_lent in refl) (unfold run_lent in refl))) (unfold program_lent in record { main = λ j h. c.code_is_bytes.ensures.main j; other = λ j h. c.code_is_bytes.ensures.other j }) c.abandoned-g.result
    (rw (c.cut_frame-cut.ensures, c.current-f.ensures) at c.abandoned-g.ensures))) in
    let e = c.stop.ensures in rw (e.0, e.1, e.2, e.3) (unfold run_lent program_lent in run_stopped abandons c.args.m (stores_in c.args.stores.now) (run_lent c.args.stack.now c.args.cells.now c.args.frames.now c.args.copy.now c.args.backtrace.now) c.abandoned-g.result c.cut_frame-cut.result 13 c.args.stack.now c.args.cells.now c.args.frames.now h)
