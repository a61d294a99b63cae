-- `put_shown`: a byte a turn, and two dots where there are more.
use Rattle.model.specs.Basics.{ascii}
use Rattle.printing.proofs.Puts.{at_first}
use Rattle.notes.proofs.Shown.{one_shown, whole_text, cut_text}
use Rattle.notes.proofs.put_shown.Goals as goal

pub loop-b-init : goal.loop-b-init
loop-b-init c = at_first _ _ _

pub loop-b-preserved : goal.loop-b-preserved
loop-b-preserved c = one_shown _ _ c.loop-b.invariant c.loop-b-test.true c.shown_byte.ensures c.put_byte-next.ensures

pub returns-then-n-text : goal.returns-then-n-text
unfolding ascii
returns-then-n-text c = cut_text _ _ c.loop-b.invariant c.min-n.ensures c.loop-b-test.false c.if-n-text.true c.put_text.ensures

pub returns : goal.returns
returns c = whole_text _ _ c.loop-b.invariant c.min-n.ensures c.loop-b-test.false c.if-n-text.false
