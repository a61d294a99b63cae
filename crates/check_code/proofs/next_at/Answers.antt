-- `next_at`: an instruction has three operands or fewer, so that the sum fits.
use native.Mathlib.Omega.{arith}
use Rattle.check_code.proofs.Instructions.{at_most_three, next_is}
use Rattle.check_code.proofs.next_at.Goals as goal

pub overflow_mul-result : goal.overflow_mul-result
overflow_mul-result c = let few = at_most_three _ c.operands-n.ensures in omega arith

pub overflow_add-result-2 : goal.overflow_add-result-2
overflow_add-result-2 c = let few = at_most_three _ c.operands-n.ensures in omega arith

pub returns : goal.returns
returns c = let few = at_most_three _ c.operands-n.ensures in (search next_is, omega arith)
