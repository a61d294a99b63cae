-- `mark`: an instruction a turn.
use Prim.Native.Nat.{◌-◌}
use lib.ListN.{length}
use Rattle.check_code.proofs.Marks.{Marking}
use Rattle.check_code.proofs.mark.Given as goal

abbrev pub invariant-loop-i : goal.invariant-loop-i
invariant-loop-i l = Marking l.code l.initial.marks l.marks l.i

abbrev pub decreases-loop-i : goal.decreases-loop-i
decreases-loop-i l = length l.code - l.i
