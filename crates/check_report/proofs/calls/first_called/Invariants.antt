-- `first_called`: a function a turn.
use Rattle.check_report.proofs.Calling.{Seeking}
use Rattle.check_report.proofs.calls.first_called.Given as goal

abbrev pub invariant-loop-g : goal.invariant-loop-g
invariant-loop-g l = Seeking l.f l.any l.k l.n l.functions l.main l.other l.g
