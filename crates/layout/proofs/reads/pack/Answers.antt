-- `layout::reads::pack` meets its contract.
use mathlib.Core.Path.{refl}
use Rattle.model.specs.Stores.{pack}
use Rattle.layout.proofs.reads.pack.Goals as goal

pub returns : goal.returns
unfolding pack
returns c = refl
