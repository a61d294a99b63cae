-- `image_judge::check_others` meets its contract.
use Rattle.image_judge.proofs.Functions.{Passing}
use Rattle.image_judge.proofs.check_others.Given as goal

abbrev pub invariant-loop : goal.invariant-loop
invariant-loop l = Passing l.n l.image l.at l.next l.text l.code l.within l.counter
