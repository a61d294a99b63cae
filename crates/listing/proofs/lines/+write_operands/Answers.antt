-- `write_operands`: none, the last one, or one with a space and others behind it.
use Rattle.listing.proofs.Pieces.{no_operands, one_operand, more_operands}
use Rattle.listing.proofs.lines.+write_operands.Goals as goal

pub returns-then-n-eq0 : goal.returns-then-n-eq0
returns-then-n-eq0 t c = no_operands _ _ _ c.if-n-eq0.true

pub returns-then-n-eq1 : goal.returns-then-n-eq1
returns-then-n-eq1 t c = one_operand _ _ _ c.operand.ensures c.write_decimal-space.ensures _ c.if-n-eq1.true

pub returns : goal.returns
returns t c =
    more_operands _ _ _ c.operand.ensures c.write_decimal-space.ensures _ c.if-n-eq0.false c.if-n-eq1.false c.put_byte-next.ensures
    c.write_operands.ensures
