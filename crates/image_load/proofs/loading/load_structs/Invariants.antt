-- `image_load::loading::load_structs` meets its contract.
use Rattle.image_load.proofs.Filling.{FillingStructs}
use Rattle.image_load.proofs.loading.load_structs.Given as goal

abbrev pub invariant-loop-i : goal.invariant-loop-i
invariant-loop-i l =
    FillingStructs l.image l.first l.count l.t0 l.initial.structs l.initial.text l.structs l.text l.next l.t l.i
