-- `print_report`: measured, then put.
use mathlib.Core.Path.{refl}
use borrow.Author.Rules.{rules}
use Rattle.report_lines.proofs.Prints.{no_room, room_for}
use Rattle.report_lines.proofs.print_report.Goals as goal

pub put_report-len-requires : goal.put_report-len-requires
put_report-len-requires c = c.requires

pub returns-then-room-len : goal.returns-then-room-len
returns-then-room-len c =
    λ stack frames copy. no_room _ _ (search rules) (c.put_report-len.ensures stack frames copy) _
    (c.room.ensures _ refl) c.if-room-len.true

pub put_report-requires : goal.put_report-requires
put_report-requires c = c.requires

pub returns : goal.returns
returns c =
    λ stack frames copy. room_for _ _ (search rules)
    (c.put_report-len.ensures stack frames copy) _
    (c.room.ensures _ refl) c.if-room-len.false
    (c.put_report.ensures stack frames copy)
