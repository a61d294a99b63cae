-- `image_save::saving::put_runs` meets its contract.
use Prim.Native.Nat.{◌-◌}
use Rattle.image_save.proofs.Imaging.{PuttingRuns}
use Rattle.image_save.proofs.saving.put_runs.Given as goal

abbrev pub invariant-loop-i : goal.invariant-loop-i
invariant-loop-i l = PuttingRuns l.at l.places l.from l.to l.initial.out l.out l.next l.i

abbrev pub decreases-loop-i : goal.decreases-loop-i
decreases-loop-i l = l.to - l.i
