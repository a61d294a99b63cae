-- `layout::reads::room` meets its contract.
use Rattle.layout.proofs.Parts.{room_is}
use Rattle.layout.proofs.reads.room.Goals as goal

pub returns : goal.returns
returns c = room_is _ _ _ c.requires c.lesser.ensures
