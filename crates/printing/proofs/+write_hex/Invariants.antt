-- `write_hex`: a last digit behind the others.
use Rattle.printing.proofs.+write_hex.Given as goal

abbrev pub decreases-write_hex : goal.decreases-write_hex
decreases-write_hex l = l.n
