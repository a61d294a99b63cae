-- `run_ends::copy_short` meets its contract.
use Rattle.run_ends.proofs.Judging.{copy_short_is}
use Rattle.run_ends.proofs.copy_short.Goals as goal

pub returns : goal.returns
returns c = copy_short_is _ _ c.room-2.ensures c.room.ensures
