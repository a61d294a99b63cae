-- `word_at`: two bytes, low byte first.
use native.Mathlib.Omega.{arith}
use Rattle.check_code.proofs.Instructions.{word_is}
use Rattle.check_code.proofs.word_at.Goals as goal

pub returns : goal.returns
returns c = (search word_is, omega arith)
