-- `jump_at`: a jump goes on from behind its operand.
use borrow.Author.Rules.{rules}
use Rattle.check_code.proofs.Tests.{jump_lands_or_not, no_jump}
use Rattle.check_code.proofs.jump_at.Goals as goal

pub returns-then-is_jump : goal.returns-then-is_jump
returns-then-is_jump c = search (rules, jump_lands_or_not)

pub returns : goal.returns
returns c = search (rules, no_jump)
