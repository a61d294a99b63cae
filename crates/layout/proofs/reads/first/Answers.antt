-- `layout::reads::first` meets its contract.
use Rattle.model.specs.Values.{kind_at}
use Rattle.layout.proofs.Parts.{past_0}
use Rattle.layout.proofs.reads.first.Goals as goal

pub returns-then-s-i : goal.returns-then-s-i
returns-then-s-i c = past_0 _ _ c.if-s-i.true

pub returns : goal.returns
unfolding kind_at
returns c = c.word.ensures
