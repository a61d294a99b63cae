-- `within_limits`: the sizes are the program's.
use Rattle.image_load.proofs.Loads.{limits_by}
use Rattle.image_load.proofs.within_limits.Goals as goal

pub returns : goal.returns
returns c = λ p h. limits_by p _ h
