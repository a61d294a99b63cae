-- `layout::ordered::move_up` meets its contract.
use Rattle.laws_names.proofs.Putting.{Moving}
use Rattle.layout.proofs.ordered.move_up.Given as goal

abbrev pub invariant-loop-k : goal.invariant-loop-k
invariant-loop-k l = Moving l.n l.at l.x l.initial.structs l.k l.carry l.structs
