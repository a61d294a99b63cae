-- `embed::unloaded` meets its contract.
use mathlib.Core.Path.{refl}
use mathlib.Core.List.{[]}
use Rattle.embed.proofs.Own.{load_unmade}
use Rattle.embed.proofs.unloaded.Goals as goal

pub returns : goal.returns
returns c = λ w s fs. load_unmade _ s fs _ w _ ((c.no_place-made.ensures s).answer [] refl) (c.tell_unmade.ensures w)
