-- `is_jump`: one of two opcodes.
use Rattle.check_code.proofs.Tests.{is_conditional, not_conditional}
use Rattle.std.proofs.Common.{rules}
use Rattle.check_code.proofs.is_jump.Goals as goal

pub returns-then-b-eq-JUMP_IF_FALSE : goal.returns-then-b-eq-JUMP_IF_FALSE
returns-then-b-eq-JUMP_IF_FALSE c = search (rules, is_conditional)

pub returns : goal.returns
returns c = search (rules, not_conditional)
