-- `layout::reads::second` meets its contract.
use Rattle.model.specs.Values.{payload_at}
use Rattle.layout.proofs.Parts.{past_1}
use Rattle.layout.proofs.reads.second.Goals as goal

pub returns-then-s-i : goal.returns-then-s-i
returns-then-s-i c = past_1 _ _ c.if-s-i.true

pub returns : goal.returns
unfolding payload_at
returns c = c.word.ensures
