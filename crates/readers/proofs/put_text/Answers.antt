use Rattle.readers.proofs.Shows.{text_outside, text_long, text_room_lem, text_put_lem}
use mathlib.Core.Path.{refl}
use Rattle.readers.proofs.put_text.Goals as goal

pub returns-then-m-to : goal.returns-then-m-to
returns-then-m-to c = text_outside _ _ _ _ _ c.if-m-to.true

pub returns-then-room-size : goal.returns-then-room-size
returns-then-room-size c =
    text_long _ _ _ _ _ c.requires c.if-m-to.false
    (c.room.ensures _ refl) c.if-room-size.true

pub put_bytes-requires : goal.put_bytes-requires
put_bytes-requires c =
    text_room_lem c.args.m c.args.text.now c.args.out.now c.args.o c.args.n
    c.requires c.if-m-to.false (c.room.ensures _ refl) c.if-room-size.false

pub returns : goal.returns
returns c =
    text_put_lem _ _ _ _ _ c.requires c.if-m-to.false (c.room.ensures _ refl) c.if-room-size.false
    c.put_bytes.ensures
