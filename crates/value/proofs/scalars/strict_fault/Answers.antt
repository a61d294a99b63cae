-- `value::scalars::strict_fault` meets its contract.
use Rattle.value.proofs.scalars.strict_fault.Goals as goal

pub returns-then-strict : goal.returns-then-strict
returns-then-strict c = rw c.if-strict.true c.escaped.ensures

pub returns : goal.returns
returns c = rw c.if-strict.false
