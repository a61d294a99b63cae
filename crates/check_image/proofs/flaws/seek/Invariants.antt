-- `seek`: a function a turn.
use Rattle.check_image.proofs.Seeking.{Seeking}
use Rattle.check_image.proofs.flaws.seek.Given as goal

abbrev pub invariant-loop-g : goal.invariant-loop-g
invariant-loop-g l = Seeking l.image l.fn.z l.f l.initial.table l.table l.g l.next
