-- `hex_digit`: a digit or a letter.
use Rattle.printing.proofs.Hex.{digit_is, letter_is}
use Rattle.printing.proofs.hex_digit.Goals as goal

pub returns-then-d-lt10 : goal.returns-then-d-lt10
returns-then-d-lt10 c = digit_is _ c.if-d-lt10.true

pub returns : goal.returns
returns c = letter_is _ c.if-d-lt10.false
