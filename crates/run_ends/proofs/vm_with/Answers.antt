-- `run_ends::vm_with` meets its contract.
use Rattle.run_ends.proofs.vm_with.Goals as goal

pub returns : goal.returns
returns c = rw c.no_run-run.ensures
