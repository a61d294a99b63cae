-- `play`: a line a turn, each one of those that are left.
use Rattle.console_script.specs.Lines.{lines_left}
use Rattle.console_frames.specs.Calls.{Held, held_by}
use Rattle.console.specs.Turns.{Played}
use Rattle.console.proofs.play.Given as goal

abbrev pub invariant-loop-next : goal.invariant-loop-next
invariant-loop-next g l =
    (s' : Held) → Played l.script l.next l.m (held_by l.stores) s' → Played l.script l.initial.next l.initial.m (held_by l.initial.stores) s'

abbrev pub decreases-loop-next : goal.decreases-loop-next
decreases-loop-next g l = lines_left l.next
