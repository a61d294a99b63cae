use Rattle.readers.proofs.Shows.{stack_outside, no_place_lem, place_room, place_shown}
use mathlib.Core.Path.{refl}
use Rattle.readers.proofs.stack_value.Goals as goal

pub returns-then-room-taken : goal.returns-then-room-taken
returns-then-room-taken c = stack_outside _ _ _ (c.room.ensures _ refl) c.if-room-taken.true

pub returns-then-taken-i : goal.returns-then-taken-i
returns-then-taken-i c = no_place_lem _ _ _ (c.room.ensures _ refl) c.if-room-taken.false c.if-taken-i.true

pub value_at-requires : goal.value_at-requires
value_at-requires c =
    place_room c.args.m c.args.i c.args.stack.now (c.room.ensures _ refl)
    c.if-room-taken.false c.if-taken-i.false

pub returns : goal.returns
returns c =
    place_shown _ _ _ (c.room.ensures _ refl) c.if-room-taken.false c.if-taken-i.false
    c.value_at.ensures
