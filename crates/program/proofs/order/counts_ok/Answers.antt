-- `program::order::counts_ok` meets its contract.
use Rattle.laws_programs.proofs.Checks.{counts_is}
use Rattle.program.proofs.order.counts_ok.Goals as goal

pub returns : goal.returns
returns c = counts_is _ _ c.last_of.ensures
