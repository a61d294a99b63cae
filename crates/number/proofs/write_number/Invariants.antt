-- `write_number`: the loop puts a group a turn, and the last group follows it.
use Rattle.number.proofs.Writing.{Left}
use Rattle.number.proofs.write_number.Given as goal

abbrev pub invariant-loop-rest : goal.invariant-loop-rest
invariant-loop-rest l = Left l.initial.out l.at l.n l.out l.rest l.i

abbrev pub decreases-loop-rest : goal.decreases-loop-rest
decreases-loop-rest l = l.rest
