-- `image_judge::repeats::take_in` meets its contract.
use Rattle.image_judge.proofs.Repeating.{Taking}
use Rattle.image_judge.proofs.repeats.take_in.Given as goal

abbrev pub invariant-loop-i : goal.invariant-loop-i
invariant-loop-i l = Taking l.image l.from l.n l.initial.structs l.structs l.next l.i
