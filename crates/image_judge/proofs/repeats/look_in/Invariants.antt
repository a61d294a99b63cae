-- `image_judge::repeats::look_in` meets its contract.
use Rattle.image_judge.proofs.Repeating.{Looking}
use Rattle.image_judge.proofs.repeats.look_in.Given as goal

abbrev pub invariant-loop-i : goal.invariant-loop-i
invariant-loop-i l = Looking l.image l.from l.n l.k l.next l.i
