-- `tally`: an instruction a turn.
use Prim.Native.Nat.{◌-◌}
use lib.ListN.{length}
use Rattle.check_code.proofs.Entries.{Tallying}
use Rattle.check_code.proofs.tally.Given as goal

abbrev pub invariant-loop-i : goal.invariant-loop-i
invariant-loop-i l = Tallying l.code l.initial.counts l.counts l.i

abbrev pub decreases-loop-i : goal.decreases-loop-i
decreases-loop-i l = length l.code - l.i
