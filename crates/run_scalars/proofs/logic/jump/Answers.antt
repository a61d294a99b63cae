-- `run_scalars::logic::jump` meets its contract.
use mathlib.Core.Path.{refl}
use Rattle.run_arms.proofs.Posts.{jumps}
use Rattle.run_scalars.proofs.logic.jump.Goals as goal

pub returns : goal.returns
returns c = jumps c.requires.0 _ refl
