-- `write_line`: its pieces one behind the other.
use native.Mathlib.Omega.{arith}
use Rattle.listing.proofs.Pieces.{line_is}
use Rattle.listing.proofs.Turns.{behind_is, whole_instruction}
use borrow.Author.Rules.{rules}
use Rattle.listing.proofs.lines.write_line.Goals as goal

pub overflow_add-i : goal.overflow_add-i
overflow_add-i c = search (rules, arith, behind_is)

pub write_operands-end-requires : goal.write_operands-end-requires
write_operands-end-requires c =
    let count = c.operands.ensures in
    let reads =
    whole_instruction c.args.code.now c.args.i count in
    (omega arith, omega arith)

pub returns : goal.returns
returns c =
    line_is _ _ _ c.operands.ensures c.put_text-offset.ensures c.write_decimal-space.ensures
    c.put_byte-name.ensures c.write_name-gap.ensures c.put_byte-start.ensures
    c.write_operands-end.ensures c.put_byte.ensures
