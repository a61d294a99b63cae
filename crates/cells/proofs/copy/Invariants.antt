-- `cells::copy` meets its contract.
use Rattle.model.specs.Values.{vals}
use Rattle.cells.specs.Links.{elements_of}
use Rattle.cells.proofs.Builds.{Copied}
use Rattle.cells.proofs.copy.Given as goal

abbrev pub invariant-loop-i : goal.invariant-loop-i
invariant-loop-i l = Copied (elements_of l.list l.n (vals l.sp l.stack)) l.from l.n l.initial.cells l.cells l.i
