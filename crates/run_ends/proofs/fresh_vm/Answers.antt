-- `fresh_vm`: a machine that has not run.
use Rattle.model.specs.Machines.{fresh}
use Rattle.run_ends.proofs.fresh_vm.Goals as goal

pub returns : goal.returns
unfolding fresh
returns c = rw c.no_run.ensures
