-- `run_ends::cells_ok` meets its contract.
use mathlib.Core.Path.{refl}
use Rattle.run_ends.proofs.Judging.{words_room, cells_many, cells_is}
use Rattle.run_ends.proofs.cells_ok.Goals as goal

pub returns-then-room-used : goal.returns-then-room-used
returns-then-room-used c = cells_many _ _ _ (c.room.ensures _ refl) c.if-room-used.true

pub good_cells-requires : goal.good_cells-requires
good_cells-requires c = words_room c.args.used c.args.cells.now (c.room.ensures _ refl) c.if-room-used.false

pub returns : goal.returns
returns c = cells_is _ _ _ (c.room.ensures _ refl) c.if-room-used.false c.good_cells.ensures
