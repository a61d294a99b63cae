-- `keep_rule`: a function a turn.
use Rattle.check_image.proofs.Judged.{Looking}
use Rattle.check_image.proofs.passes.keep_rule.Given as goal

abbrev pub invariant-loop-f : goal.invariant-loop-f
invariant-loop-f g l = Looking l.rule l.image l.fn.z l.initial.marks l.marks l.f l.next
