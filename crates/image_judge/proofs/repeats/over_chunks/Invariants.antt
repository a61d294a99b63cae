-- `image_judge::repeats::over_chunks` meets its contract.
use Prim.Native.Nat.{◌-◌}
use mathlib.Core.Path.{◌≡◌}
use lib.ListN.{length}
use Rattle.image_judge.proofs.Repeating.{Repeating}
use Rattle.image_judge.proofs.repeats.over_chunks.Given as goal

abbrev pub invariant-loop-done : goal.invariant-loop-done
invariant-loop-done l =
    (length l.structs ≡ length l.initial.structs) × Repeating l.image l.at l.n l.repeat l.next l.done

abbrev pub decreases-loop-done : goal.decreases-loop-done
decreases-loop-done l = l.n - l.done
