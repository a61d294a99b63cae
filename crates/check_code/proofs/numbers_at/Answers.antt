-- `numbers_at`: each of two operands.
use borrow.Author.Rules.{rules}
use Rattle.check_code.proofs.Tests.{first_out_of_range, in_range_if_second_is}
use Rattle.check_code.proofs.numbers_at.Goals as goal

pub returns-then-in_range : goal.returns-then-in_range
returns-then-in_range c = search (rules, in_range_if_second_is)

pub returns : goal.returns
returns c = search (rules, first_out_of_range)
