-- `write_operands`: none, the last one, or one with a space and others behind it.
use Rattle.listing.proofs.lines.+write_operands.Given as goal

abbrev pub decreases-write_operands : goal.decreases-write_operands
decreases-write_operands l = l.n
