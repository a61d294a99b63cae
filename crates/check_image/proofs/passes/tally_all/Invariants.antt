-- `tally_all`: a function a turn.
use Rattle.check_image.proofs.Counting.{Counts}
use Rattle.check_image.proofs.passes.tally_all.Given as goal

abbrev pub invariant-loop-f : goal.invariant-loop-f
invariant-loop-f l = Counts l.image l.fn.z l.initial.counts l.f l.next l.counts
