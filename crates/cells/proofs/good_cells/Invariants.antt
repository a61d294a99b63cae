-- `cells::good_cells` meets its contract.
use Prim.Native.Nat.{◌-◌}
use Rattle.model.specs.Heap.{heap_of}
use Rattle.cells.proofs.Scans.{Scanned}
use Rattle.cells.proofs.good_cells.Given as goal

abbrev pub invariant-loop-p : goal.invariant-loop-p
invariant-loop-p l = Scanned l.texts (heap_of l.used l.cells) l.used l.p

abbrev pub decreases-loop-p : goal.decreases-loop-p
decreases-loop-p l = l.used - l.p
