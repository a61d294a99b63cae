-- `run_ends::set_to` meets its contract.
use Rattle.run_ends.specs.Links.{set_by}
use Rattle.run_ends.proofs.set_to.Goals as goal

pub returns-then-not-good : goal.returns-then-not-good
unfolding set_by
returns-then-not-good c = rw c.if-not-good.true

pub returns-then-running : goal.returns-then-running
unfolding set_by
returns-then-running c = rw (c.if-not-good.false, c.if-running.true)

pub returns : goal.returns
unfolding set_by
returns c = rw (c.if-not-good.false, c.if-running.false)
