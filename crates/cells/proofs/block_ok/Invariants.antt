-- `cells::block_ok` meets its contract.
use Rattle.model.specs.Heap.{heap_of}
use Rattle.cells.proofs.Scans.{Walk}
use Rattle.cells.proofs.block_ok.Given as goal

abbrev pub invariant-loop-i : goal.invariant-loop-i
invariant-loop-i l = Walk l.texts (heap_of l.used l.cells) l.p l.count l.d l.i
