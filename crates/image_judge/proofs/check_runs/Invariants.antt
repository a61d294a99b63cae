-- `image_judge::check_runs` meets its contract.
use Rattle.image_judge.proofs.Runs.{Judging}
use Rattle.image_judge.proofs.check_runs.Given as goal

abbrev pub invariant-loop-left : goal.invariant-loop-left
invariant-loop-left l = Judging l.image l.at l.size l.next l.left l.before

abbrev pub decreases-loop-left : goal.decreases-loop-left
decreases-loop-left l = l.left
