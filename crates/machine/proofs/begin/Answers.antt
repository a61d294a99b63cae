-- `machine::begin` meets its contract: the stack is copied, the frames are unentered.
use Rattle.layout.specs.Lent.{program_lent, stores_in}
use Rattle.std.proofs.Common.{refl, []}
use Rattle.std.proofs.lemmas.Result.{err_from_is_err_and}
use Rattle.model.specs.Machines.{begins}
use Rattle.machine.specs.Links.{run_lent}
use Rattle.machine.proofs.Granted.{refused_with, granted_by}
use Rattle.machine.proofs.Beginnings.{copy_ready, frames_ready, current_ready, run_begun}
use Rattle.machine.proofs.begin.Goals as goal

pub returns-in_err-may_begin : goal.returns-in_err-may_begin
returns-in_err-may_begin c =
    let p = err_from_is_err_and c.from_residual.result c.from_residual.ensures.1 in
    λ backtrace. rw (p.1, p.2) (refused_with c.args.m (stores_in c.args.stores.now) (run_lent c.args.stack.now c.args.cells.now c.args.frames.now c.args.copy.now backtrace) begins (c.in_err-may_begin.ensures (stores_in c.args.stores.now) (run_lent c.args.stack.now c.args.cells.now c.args.frames.now c.args.copy.now backtrace) (c.order-good.ensures backtrace) (unfold run_lent in refl) (unfold run_lent in refl)))

pub copy_front-requires : goal.copy_front-requires
copy_front-requires c =
    unfold run_lent in copy_ready c.args.m (stores_in c.args.stores.now) (run_lent c.args.stack.now c.args.cells.now c.args.frames.now c.args.copy.now []) (granted_by c.args.m (stores_in c.args.stores.now) (run_lent c.args.stack.now c.args.cells.now c.args.frames.now c.args.copy.now []) begins (c.in_ok-may_begin.ensures (stores_in c.args.stores.now) (run_lent c.args.stack.now c.args.cells.now c.args.frames.now c.args.copy.now []) (c.order-good.ensures []) (unfold run_lent in refl) (unfold run_lent in refl)))

pub unenter-requires : goal.unenter-requires
unenter-requires c =
    unfold run_lent in frames_ready c.args.m (stores_in c.args.stores.now) (run_lent c.args.stack.now c.args.cells.now c.args.frames.now c.args.copy.now []) (granted_by c.args.m (stores_in c.args.stores.now) (run_lent c.args.stack.now c.args.cells.now c.args.frames.now c.args.copy.now []) begins (c.in_ok-may_begin.ensures (stores_in c.args.stores.now) (run_lent c.args.stack.now c.args.cells.now c.args.frames.now c.args.copy.now []) (c.order-good.ensures []) (unfold run_lent in refl) (unfold run_lent in refl)))

pub current-f-requires : goal.current-f-requires
current-f-requires c =
    rw c.unenter.ensures (unfold run_lent in current_ready c.args.m (stores_in c.args.stores.now) (run_lent c.args.stack.now c.args.cells.now c.args.frames.now c.args.copy.now []) (granted_by c.args.m (stores_in c.args.stores.now) (run_lent c.args.stack.now c.args.cells.now c.args.frames.now c.args.copy.now []) begins (c.in_ok-may_begin.ensures (stores_in c.args.stores.now) (run_lent c.args.stack.now c.args.cells.now c.args.frames.now c.args.copy.now []) (c.order-good.ensures []) (unfold run_lent in refl) (unfold run_lent in refl))))

pub returns : goal.returns
returns c =
    λ backtrace. rw (c.begun.ensures, c.current-f.ensures, c.unenter.ensures, c.copy_front.ensures)
    (unfold program_lent run_lent in run_begun c.args.m (stores_in c.args.stores.now) (run_lent c.args.stack.now c.args.cells.now c.args.frames.now c.args.copy.now backtrace) (granted_by c.args.m (stores_in c.args.stores.now) (run_lent c.args.stack.now c.args.cells.now c.args.frames.now c.args.copy.now backtrace) begins (c.in_ok-may_begin.ensures (stores_in c.args.stores.now) (run_lent c.args.stack.now c.args.cells.now c.args.frames.now c.args.copy.now backtrace) (c.order-good.ensures backtrace) (unfold run_lent in refl) (unfold run_lent in refl))) (unfold program_lent in record { main = λ j h. c.code_is_bytes.ensures.main j; other = λ j h. c.code_is_bytes.ensures.other j }))
