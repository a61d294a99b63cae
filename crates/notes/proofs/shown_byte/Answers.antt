-- `shown_byte`: by the test.
use Rattle.notes.proofs.Shown.{plain_byte, other_byte}
use Rattle.std.proofs.Common.{rules}
use Rattle.notes.proofs.shown_byte.Goals as goal

pub returns-then-b : goal.returns-then-b
returns-then-b c = search (rules, plain_byte)

pub returns : goal.returns
returns c = search (rules, other_byte)
