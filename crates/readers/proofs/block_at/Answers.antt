use mathlib.Core.Path.{refl}
use Rattle.readers.proofs.Shows.{cells_outside, cells_room, not_placed, block_found, no_block}
use Rattle.readers.proofs.block_at.Goals as goal

pub returns-then-room-used : goal.returns-then-room-used
returns-then-room-used c = cells_outside _ _ _ (c.room.ensures _ refl) c.if-room-used.true

pub placed-requires : goal.placed-requires
placed-requires c =
    cells_room c.args.m c.args.v c.args.cells.now (c.room.ensures _ refl)
    c.if-room-used.false

pub returns-then-not-placed : goal.returns-then-not-placed
returns-then-not-placed c = not_placed _ _ _ (c.room.ensures _ refl) c.if-room-used.false c.placed.ensures c.if-not-placed.true

pub returns-in-List : goal.returns-in-List
returns-in-List c =
    block_found _ _ _ (c.room.ensures _ refl) c.if-room-used.false c.placed.ensures c.if-not-placed.false _ c.in-List.is

pub returns-in_default : goal.returns-in_default
returns-in_default c =
    no_block _ _ _ (c.room.ensures _ refl) c.if-room-used.false c.placed.ensures c.if-not-placed.false
    c.in_default.not-List c.in_default.not-StructInstance
