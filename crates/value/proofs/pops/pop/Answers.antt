-- `value::pops::pop` meets its contract.
use borrow.Author.Rules.{rules}
use Rattle.value.proofs.Operands.{pop_none, pop_top}
use Rattle.value.proofs.pops.pop.Goals as goal

pub returns-then-sp-eq0 : goal.returns-then-sp-eq0
returns-then-sp-eq0 c = pop_none _ _ c.if-sp-eq0.true

pub returns : goal.returns
returns c = search (rules, pop_top)
