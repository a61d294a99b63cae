-- `image_judge::check_structs` meets its contract.
use Rattle.image_judge.proofs.Passes.{Names}
use Rattle.image_judge.proofs.check_structs.Given as goal

abbrev pub invariant-loop-i : goal.invariant-loop-i
invariant-loop-i l = Names l.image l.first l.count l.repeat l.next l.text l.i
