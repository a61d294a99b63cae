-- `layout::writes::put_words` meets its contract.
use mathlib.Core.Path.{refl}
use Rattle.model.specs.Values.{put_words}
use Rattle.layout.proofs.Writing.{second_fits}
use Rattle.layout.proofs.writes.put_words.Goals as goal

pub bounds-s-i-2 : goal.bounds-s-i-2
bounds-s-i-2 c = second_fits c.args.s.now c.args.i c.args.first c.requires

pub returns : goal.returns
unfolding put_words
returns c = refl
