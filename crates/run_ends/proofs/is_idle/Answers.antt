-- `run_ends::is_idle` meets its contract.
use Rattle.model.specs.Machines.{idle}
use mathlib.Core.Path.{refl}
use Rattle.run_ends.proofs.is_idle.Goals as goal

pub returns : goal.returns
unfolding idle
returns c = refl
