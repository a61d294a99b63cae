-- `put_heights`: a function a turn.
use Rattle.check_report.proofs.Lines.{Told}
use Rattle.check_report.proofs.facts.put_heights.Given as goal

abbrev pub invariant-loop-f : goal.invariant-loop-f
invariant-loop-f l = Told l.n l.heights l.initial.out l.at l.out l.f l.next
