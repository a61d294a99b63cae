-- `name_len`: the name reaches every place that the loop comes to.
use Prim.Native.Nat.{◌≤◌}
use lib.ListN.{length}
use Rattle.model.specs.Opcodes.{opcode_at}
use Rattle.opcode.proofs.name_len.Given as goal

abbrev pub invariant-loop-i : goal.invariant-loop-i
invariant-loop-i l = l.i ≤ length (opcode_at l.b).name
