-- `image_load::loading::load_constants` meets its contract.
use Rattle.image_load.proofs.Filling.{FillingConstants}
use Rattle.image_load.proofs.loading.load_constants.Given as goal

abbrev pub invariant-loop-i : goal.invariant-loop-i
invariant-loop-i l =
    FillingConstants l.image l.first l.count l.initial.constants l.initial.text l.constants l.text l.next l.t l.i
