-- `print_refused`: measured, then put.
use mathlib.Core.Path.{refl}
use borrow.Author.Rules.{rules}
use Rattle.report_lines.proofs.Prints.{no_room, room_for}
use Rattle.report_lines.proofs.print_refused.Goals as goal

pub returns-then-room-len : goal.returns-then-room-len
returns-then-room-len c =
    no_room _ _ (search rules) c.put_refused-len.ensures _ (c.room.ensures _ refl)
    c.if-room-len.true

pub returns : goal.returns
returns c =
    room_for _ _ (search rules) c.put_refused-len.ensures _
    (c.room.ensures _ refl) c.if-room-len.false
    c.put_refused.ensures
