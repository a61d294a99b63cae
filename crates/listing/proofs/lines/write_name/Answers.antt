-- `write_name`: a letter or a space a turn.
use mathlib.Core.Path.{sym, ◌∙◌}
use native.Mathlib.Omega.{arith}
use borrow.Author.Rules.{rules}
use Rattle.model.specs.Opcodes.{opcode_at}
use Rattle.printing.proofs.Puts.{at_first, another, whole, within}
use Rattle.listing.proofs.Names.{letter, padded_13, short}
use Rattle.listing.proofs.lines.write_name.Goals as goal

pub loop-i-init : goal.loop-i-init
loop-i-init c = at_first _ _ _

pub put_byte-next-requires : goal.put_byte-next-requires
put_byte-next-requires c =
    omega (arith, short c.args.b (search rules), padded_13 (opcode_at c.args.b).name _ c.name_len.ensures c.max-i-end.ensures)

pub loop-i-preserved : goal.loop-i-preserved
loop-i-preserved c =
    let g =
    padded_13 (opcode_at c.args.b).name _ c.name_len.ensures c.max-i-end.ensures in
    another c.loop-i.invariant _ 0 (c.name_byte.ensures ∙ sym (letter 13 _ 0 _ (omega arith))) (omega arith) c.put_byte-next.ensures

pub returns : goal.returns
returns c =
    let g =
    padded_13 (opcode_at c.args.b).name _ c.name_len.ensures c.max-i-end.ensures in
    within (whole c.loop-i.invariant (omega arith)) 19 (short c.args.b (search rules))
