-- `cells::weigh` meets its contract.
use Rattle.model.specs.Heap.{heap_of}
use Rattle.cells.proofs.Turns.{rank, Turn}
use Rattle.cells.proofs.+weigh.Given as goal

abbrev pub decreases-weigh : goal.decreases-weigh
decreases-weigh l = rank l.a

abbrev pub invariant-loop-i : goal.invariant-loop-i
invariant-loop-i l =
    Turn l.text (heap_of l.used l.cells) l.first l.second l.count l.left l.rest l.i
