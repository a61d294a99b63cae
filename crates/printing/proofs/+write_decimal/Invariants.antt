-- `write_decimal`: a last digit, or a digit behind those of a tenth.
use Rattle.std.proofs.Common.{◌+◌}
use Rattle.printing.proofs.+write_decimal.Given as goal

abbrev pub decreases-write_decimal : goal.decreases-write_decimal
decreases-write_decimal l = l.n + l.like
