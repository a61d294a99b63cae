-- `image_save::saving::put_functions` meets its contract.
use Rattle.image_save.proofs.Orderly.{PuttingFunctions}
use Rattle.image_save.proofs.saving.put_functions.Given as goal

abbrev pub invariant-loop-i : goal.invariant-loop-i
invariant-loop-i l =
    PuttingFunctions l.n l.stores.functions.now l.stores.text.now l.stores.main.now l.stores.main_places.now l.stores.other.now l.stores.other_places.now l.initial.out l.initial.next l.out l.next l.i
