-- `write_lines`: an instruction a turn.
use Prim.Native.Nat.{◌-◌}
use lib.ListN.{length}
use Rattle.model.specs.Listings.{line_of}
use Rattle.listing.proofs.Turns.{Turn}
use Rattle.listing.proofs.lines.write_lines.Given as goal

abbrev pub invariant-loop-i : goal.invariant-loop-i
invariant-loop-i l = Turn (line_of l.code) 64 l.code l.initial.out l.at l.out l.i l.next

abbrev pub decreases-loop-i : goal.decreases-loop-i
decreases-loop-i l = length l.code - l.i
