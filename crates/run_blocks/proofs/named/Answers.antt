-- `run_blocks::named` meets its contract.
use Rattle.run_arms.specs.Links.{built_by}
use Rattle.run_blocks.proofs.named.Goals as goal

pub returns-then-list : goal.returns-then-list
unfolding built_by
returns-then-list c = rw c.if-list.true

pub returns-else-list : goal.returns-else-list
unfolding built_by
returns-else-list c = rw c.if-list.false
