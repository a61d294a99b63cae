-- `layout::ordered::spot` meets its contract.
use Prim.Native.Nat.{◌-◌}
use Rattle.model.specs.Orders.{name_in_order}
use Rattle.laws_names.proofs.Halves.{Halving}
use Rattle.layout.proofs.ordered.spot.Given as goal

abbrev pub invariant-loop-low : goal.invariant-loop-low
invariant-loop-low l = Halving l.n (name_in_order l.structs l.text) l.name l.low l.high

abbrev pub decreases-loop-low : goal.decreases-loop-low
decreases-loop-low l = l.high - l.low
