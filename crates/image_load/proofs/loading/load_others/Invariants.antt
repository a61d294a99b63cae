-- `image_load::loading::load_others` meets its contract.
use Rattle.image_load.proofs.Placing.{FillingOthers}
use Rattle.image_load.proofs.loading.load_others.Given as goal

abbrev pub invariant-loop-i : goal.invariant-loop-i
invariant-loop-i l =
    FillingOthers l.n l.image l.at l.t0 l.initial.functions l.initial.text l.initial.code l.initial.places l.functions l.text l.code l.places l.next l.t l.c l.i
