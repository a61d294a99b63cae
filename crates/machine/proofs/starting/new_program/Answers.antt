-- `new_program`: emitted where no run is under way and there is a place for a frame.
use Rattle.std.proofs.lemmas.Result.{err_from_is_err_and}
use Rattle.machine.proofs.Makings.{not_new_over, none_new, made_new, not_new}
use Rattle.machine.proofs.starting.new_program.Goals as goal

pub returns-then-running : goal.returns-then-running
returns-then-running c = λ rest. not_new_over _ c.if-running.true

pub returns-then-frames-eq0 : goal.returns-then-frames-eq0
returns-then-frames-eq0 c = λ rest. none_new _ c.if-running.false c.if-frames-eq0.true

pub returns-in_err-counts : goal.returns-in_err-counts
returns-in_err-counts c =
    let p = err_from_is_err_and c.from_residual.result c.from_residual.ensures.1 in
    λ rest. rw (p.1, p.2) (not_new _ c.if-running.false (c.new.ensures rest) _ c.in_err-counts.was)

pub returns : goal.returns
returns c =
    λ rest. made_new _ c.if-running.false (c.new.ensures rest) _ _ c.in_ok-counts.was c.if-frames-eq0.false c.fresh_vm.ensures
