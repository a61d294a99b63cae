-- `run_ends::trace_short` meets its contract.
use Rattle.run_ends.proofs.Judging.{trace_short_is}
use Rattle.run_ends.proofs.trace_short.Goals as goal

pub returns : goal.returns
returns c = trace_short_is _ _ c.lesser.ensures c.room.ensures
