-- `value::scalars::ordering` meets its contract.
use borrow.Author.Rules.{rules}
use Rattle.model.specs.Scalars.{order_of}
use Rattle.value.proofs.scalars.ordering.Goals as goal

pub returns-in-LessThan : goal.returns-in-LessThan
unfolding order_of
returns-in-LessThan c = search rules

pub returns-in-GreaterThan : goal.returns-in-GreaterThan
unfolding order_of
returns-in-GreaterThan c = search rules

pub returns-in-LessOrEqual : goal.returns-in-LessOrEqual
unfolding order_of
returns-in-LessOrEqual c = search rules

pub returns-in-GreatorOrEqual : goal.returns-in-GreatorOrEqual
unfolding order_of
returns-in-GreatorOrEqual c = search rules
