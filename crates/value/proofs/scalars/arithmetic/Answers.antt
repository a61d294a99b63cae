-- `value::scalars::arithmetic` meets its contract.
use borrow.Author.Rules.{rules}
use Rattle.model.specs.Scalars.{arith_of}
use Rattle.value.proofs.scalars.arithmetic.Goals as goal

pub returns-in-Add : goal.returns-in-Add
unfolding arith_of
returns-in-Add c = search rules

pub returns-in-Subtract : goal.returns-in-Subtract
unfolding arith_of
returns-in-Subtract c = search rules

pub returns-in-Multiply : goal.returns-in-Multiply
unfolding arith_of
returns-in-Multiply c = search rules

pub returns-in-Divide : goal.returns-in-Divide
unfolding arith_of
returns-in-Divide c = search rules
