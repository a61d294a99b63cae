-- `numbers`: an instruction a turn.
use Prim.Native.Nat.{◌-◌}
use lib.ListN.{length}
use Rattle.check_code.proofs.Turns.{Numbering}
use Rattle.check_code.proofs.numbers.Given as goal

abbrev pub invariant-loop-i : goal.invariant-loop-i
invariant-loop-i l = Numbering l.constants l.structs l.functions l.code l.i

abbrev pub decreases-loop-i : goal.decreases-loop-i
decreases-loop-i l = length l.code - l.i
