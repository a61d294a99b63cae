-- `image_load::loading::load_runs` meets its contract.
use Rattle.image_load.proofs.Filling.{FillingRuns}
use Rattle.image_load.proofs.loading.load_runs.Given as goal

abbrev pub invariant-loop-left : goal.invariant-loop-left
invariant-loop-left l =
    FillingRuns l.image l.at l.size l.c l.initial.places l.places l.next l.left l.before

abbrev pub decreases-loop-left : goal.decreases-loop-left
decreases-loop-left l = l.left
