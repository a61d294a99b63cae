-- `image_save::saving::put_structs` meets its contract.
use Rattle.image_save.proofs.Putting.{PuttingStructs}
use Rattle.image_save.proofs.saving.put_structs.Given as goal

abbrev pub invariant-loop-i : goal.invariant-loop-i
invariant-loop-i l = PuttingStructs l.n l.structs l.text l.initial.out l.initial.next l.out l.next l.i
