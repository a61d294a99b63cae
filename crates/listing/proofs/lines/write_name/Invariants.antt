-- `write_name`: a letter or a space a turn.
use Rattle.model.specs.Opcodes.{opcode_at}
use Rattle.model.specs.Listings.{padded_to}
use Rattle.printing.proofs.Puts.{Along}
use Rattle.listing.proofs.lines.write_name.Given as goal

abbrev pub invariant-loop-i : goal.invariant-loop-i
invariant-loop-i l = Along (padded_to 13 (opcode_at l.b).name) l.initial.out l.at l.out l.i l.next
