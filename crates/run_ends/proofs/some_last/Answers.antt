-- `run_ends::some_last` meets its contract.
use Rattle.run_ends.proofs.Judging.{some_is}
use Rattle.run_ends.proofs.some_last.Goals as goal

pub returns : goal.returns
returns c = rw c.is_some.ensures (some_is c.args.last)
