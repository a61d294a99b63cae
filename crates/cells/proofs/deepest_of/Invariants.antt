-- `cells::deepest_of` meets its contract.
use Rattle.model.specs.Values.{vals}
use Rattle.model.specs.Heap.{heap_of}
use Rattle.cells.specs.Links.{elements_of}
use Rattle.cells.proofs.Builds.{Depth}
use Rattle.cells.proofs.deepest_of.Given as goal

abbrev pub invariant-loop-i : goal.invariant-loop-i
invariant-loop-i l = Depth (heap_of l.used l.cells) (elements_of l.list l.n (vals l.sp l.stack)) l.n l.d l.i
