-- `image_save::saving::put_constants` meets its contract.
use Rattle.image_save.proofs.Putting.{PuttingConstants}
use Rattle.image_save.proofs.saving.put_constants.Given as goal

abbrev pub invariant-loop-i : goal.invariant-loop-i
invariant-loop-i l = PuttingConstants l.n l.constants l.text l.initial.out l.initial.next l.out l.next l.i
