-- `put_text`: a byte a turn.
use mathlib.Core.Path.{refl}
use borrow.Author.Rules.{rules}
use Rattle.printing.proofs.Puts.{at_first, another, whole}
use Rattle.printing.proofs.put_text.Goals as goal

pub loop-b-init : goal.loop-b-init
loop-b-init c = at_first _ _ _

pub loop-b-preserved : goal.loop-b-preserved
loop-b-preserved c = another c.loop-b.invariant _ _ refl c.loop-b-test.true c.put_byte-next.ensures

pub returns : goal.returns
returns c = search (rules, whole)
