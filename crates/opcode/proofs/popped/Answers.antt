-- `popped`: the row's pops, and the operands that are counts.
use native.Mathlib.Omega.{arith}
use Rattle.model.specs.Opcodes.{popped}
use Rattle.opcode.proofs.popped.Goals as goal

pub returns : goal.returns
unfolding popped
returns c = (rw (← c.second_names.ensures, ← c.first_names.ensures, c.pops.ensures.0, c.as_count.ensures.0, c.as_count-2.ensures.0), omega arith)
