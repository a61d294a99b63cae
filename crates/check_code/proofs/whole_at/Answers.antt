-- `whole_at`: a carried opcode, and its operands within the code.
use borrow.Author.Rules.{rules}
use Rattle.check_code.proofs.Tests.{whole_if_it_ends_inside, not_whole}
use Rattle.check_code.proofs.whole_at.Goals as goal

pub returns-then-is_carried : goal.returns-then-is_carried
returns-then-is_carried c = search (rules, whole_if_it_ends_inside)

pub returns : goal.returns
returns c = search (rules, not_whole)
