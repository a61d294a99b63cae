-- `write_hex`: a last digit behind the others.
use Rattle.printing.proofs.Hex.{no_hex, more_hex}
use Rattle.printing.proofs.+write_hex.Goals as goal

pub returns-then-n-eq0 : goal.returns-then-n-eq0
returns-then-n-eq0 t c = no_hex _ _ c.if-n-eq0.true

pub returns : goal.returns
returns t c = more_hex _ _ c.if-n-eq0.false _ c.hex_digit.ensures c.write_hex-next.ensures c.put_byte.ensures
