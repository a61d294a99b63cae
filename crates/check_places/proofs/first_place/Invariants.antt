-- `first_place`: an instruction a turn, over the marks.
use Prim.Native.Nat.{◌-◌}
use lib.ListN.{length}
use Rattle.check_places.proofs.Turning.{Seeking}
use Rattle.check_places.proofs.first_place.Given as goal

abbrev pub invariant-loop-i : goal.invariant-loop-i
invariant-loop-i l = Seeking l.c.constants l.c.structs l.c.functions l.q l.main l.code l.i

abbrev pub decreases-loop-i : goal.decreases-loop-i
decreases-loop-i l = length l.code - l.i
