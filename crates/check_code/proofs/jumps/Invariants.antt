-- `jumps`: an instruction a turn, over the marks.
use Prim.Native.Nat.{◌-◌}
use lib.ListN.{length}
use Rattle.check_rules.specs.Rules.{jump_at}
use Rattle.check_code.proofs.Turns.{Passing}
use Rattle.check_code.proofs.jumps.Given as goal

abbrev pub invariant-loop-i : goal.invariant-loop-i
invariant-loop-i l = Passing (jump_at l.main l.code) l.code l.i

abbrev pub decreases-loop-i : goal.decreases-loop-i
decreases-loop-i l = length l.code - l.i
