-- `one_run`: it is begun; continued where that has paused it; abandoned where that has paused it.
use Rattle.report.proofs.Pausing.{over_at_once, over_when_continued, over_when_abandoned}
use Rattle.report.proofs.playing.one_run.Goals as goal

pub returns-then-again : goal.returns-then-again
returns-then-again c =
    over_when_abandoned (c.begin-begun.ensures c.args.backtrace.now) c.is_paused-paused.ensures c.if-paused.true c.paused_in-k.ensures c.continue_run-part.ensures c.is_paused-again.ensures c.if-again.true c.paused_in-last.ensures c.abandon.ensures

pub returns-then-paused : goal.returns-then-paused
returns-then-paused c =
    over_when_continued (c.begin-begun.ensures c.args.backtrace.now) c.is_paused-paused.ensures c.if-paused.true c.paused_in-k.ensures c.continue_run-part.ensures c.is_paused-again.ensures c.if-again.false

pub returns : goal.returns
returns c = over_at_once (c.begin-begun.ensures c.args.backtrace.now) c.is_paused-paused.ensures c.if-paused.false
