-- `run_scalars::logic::joined` meets its contract.
use Rattle.run_arms.specs.Links.{connective}
use Rattle.run_scalars.proofs.logic.joined.Goals as goal

pub returns-then-x : goal.returns-then-x
unfolding connective
returns-then-x c = rw (c.if-and.true, c.if-x.true)

pub returns-else-x : goal.returns-else-x
unfolding connective
returns-else-x c = rw (c.if-and.true, c.if-x.false)

pub returns-then-x-2 : goal.returns-then-x-2
unfolding connective
returns-then-x-2 c = rw (c.if-and.false, c.if-x-2.true)

pub returns-else-x-2 : goal.returns-else-x-2
unfolding connective
returns-else-x-2 c = rw (c.if-and.false, c.if-x-2.false)
