-- `measure`: a function a turn.
use Rattle.check_image.proofs.Measures.{Heighten}
use Rattle.check_image.proofs.passes.measure.Given as goal

abbrev pub invariant-loop-f : goal.invariant-loop-f
invariant-loop-f l = Heighten l.image l.z l.initial.counts l.initial.table l.f l.next l.counts l.table
