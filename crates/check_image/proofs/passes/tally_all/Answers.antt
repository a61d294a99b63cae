-- `tally_all`: a function a turn.
use Rattle.check_image.proofs.Counting.{no_calls_yet, calls_entered}
use Rattle.check_image.proofs.passes.tally_all.Goals as goal

pub loop-f-init : goal.loop-f-init
loop-f-init c = no_calls_yet _ _ _ c.requires.1

pub loop-f-preserved : goal.loop-f-preserved
loop-f-preserved c = calls_entered c.loop-f.invariant c.loop-f-test.true c.code_at-c.ensures c.tally.ensures search
