-- `layout::reads::text_room` meets its contract.
use mathlib.Core.Path.{refl}
use Rattle.layout.proofs.Rooms.{no_room, room_left}
use Rattle.layout.proofs.reads.text_room.Goals as goal

pub returns-then-all-taken : goal.returns-then-all-taken
returns-then-all-taken c = λ s e. no_room _ _ _ _ (c.room-all.ensures _ refl) s e c.if-all-taken.true

pub returns : goal.returns
returns c = λ s e. room_left _ _ _ _ (c.room-all.ensures _ refl) s e c.if-all-taken.false
