-- `image_judge::check_constants` meets its contract.
use Rattle.image_judge.proofs.Passes.{Constants}
use Rattle.image_judge.proofs.check_constants.Given as goal

abbrev pub invariant-loop : goal.invariant-loop
invariant-loop l = Constants l.image l.first l.count l.next l.text l.counter
