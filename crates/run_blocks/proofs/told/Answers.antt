-- `run_blocks::told` meets its contract.
use mathlib.Core.Path.{◌≡◌, refl}
use mathlib.Core.Bool.{Bool, true, false, not, beq}
use Rattle.run_arms.specs.Links.{verdict_by}
use Rattle.run_blocks.proofs.told.Goals as goal

differs_is : (b other : Bool) → not (beq other b) ≡ verdict_by b other
unfolding verdict_by
differs_is true true = refl
differs_is true false = refl
differs_is false true = refl
differs_is false false = refl

pub returns : goal.returns
returns c = differs_is c.args.not c.args.same
