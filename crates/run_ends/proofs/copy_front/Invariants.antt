-- `run_ends::copy_front`: the words so far stand in front.
use Prim.Native.Nat.{◌*◌}
use lib.ListN.{take}
use Rattle.layout.proofs.Writing.{Writing}
use Rattle.run_ends.proofs.copy_front.Given as goal

abbrev pub invariant-loop-i : goal.invariant-loop-i
invariant-loop-i l = Writing l.initial.to 0 (take (2 * l.n) l.from) l.to l.i
