-- `layout::reads::word` meets its contract.
use mathlib.Core.Path.{refl}
use Rattle.layout.proofs.Parts.{past}
use Rattle.layout.proofs.reads.word.Goals as goal

pub returns-then-i-s : goal.returns-then-i-s
returns-then-i-s c = refl

pub returns : goal.returns
returns c = past c.args.s.now _ c.if-i-s.false
