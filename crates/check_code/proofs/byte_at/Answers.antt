-- `byte_at`: past the code there is no byte.
use Rattle.check_code.proofs.Instructions.{no_byte}
use Rattle.std.proofs.Common.{rules}
use Rattle.check_code.proofs.byte_at.Goals as goal

pub returns : goal.returns
returns c = search (rules, no_byte)
