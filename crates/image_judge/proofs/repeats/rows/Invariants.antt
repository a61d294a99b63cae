-- `image_judge::repeats::rows` meets its contract.
use Rattle.image_judge.proofs.Repeating.{Rowing}
use Rattle.image_judge.proofs.repeats.rows.Given as goal

abbrev pub invariant-loop-i : goal.invariant-loop-i
invariant-loop-i l = Rowing l.image l.at l.n l.next l.i
