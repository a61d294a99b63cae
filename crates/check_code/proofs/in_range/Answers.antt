-- `in_range`: three kinds have a number.
use borrow.Author.Rules.{rules}
use Rattle.check_code.proofs.Tests.{a_constant, a_struct, a_function, no_number_lem}
use Rattle.check_code.proofs.in_range.Goals as goal

pub returns-in-Constant : goal.returns-in-Constant
returns-in-Constant c = search (rules, a_constant)

pub returns-in-Struct : goal.returns-in-Struct
returns-in-Struct c = search (rules, a_struct)

pub returns-in-Function : goal.returns-in-Function
returns-in-Function c = search (rules, a_function)

pub returns-in_default : goal.returns-in_default
returns-in_default c = search (rules, no_number_lem)
