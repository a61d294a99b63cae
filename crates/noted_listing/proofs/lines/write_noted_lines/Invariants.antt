-- `write_noted_lines`: an instruction a turn.
use Prim.Native.Nat.{◌-◌}
use lib.ListN.{length}
use Rattle.notes.specs.Notes.{noted_line}
use Rattle.notes.specs.Links.{known_from}
use Rattle.listing.proofs.Turns.{Turn}
use Rattle.noted_listing.proofs.lines.write_noted_lines.Given as goal

abbrev pub invariant-loop-i : goal.invariant-loop-i
invariant-loop-i l =
    Turn (noted_line (known_from l.c l.stores) l.code l.places) 256 l.code l.initial.out l.at l.out l.i l.next

abbrev pub decreases-loop-i : goal.decreases-loop-i
decreases-loop-i l = length l.code - l.i
