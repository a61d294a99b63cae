-- `print_checked`: measured, then put.
use borrow.Author.Rules.{rules}
use mathlib.Core.Path.{refl}
use Rattle.report_lines.proofs.Prints.{no_room, room_for}
use Rattle.check_report.proofs.print_checked.Goals as goal

pub returns-then-room-len : goal.returns-then-room-len
returns-then-room-len c = no_room _ _ (search rules) c.put_checked-len.ensures _ (c.room.ensures _ refl) c.if-room-len.true

pub returns : goal.returns
returns c =
    room_for _ _ (search rules) c.put_checked-len.ensures _ (c.room.ensures _ refl) c.if-room-len.false
    c.put_checked.ensures
