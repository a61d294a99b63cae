-- `note_operands`: the first two operands say all.
use native.Mathlib.Omega.{arith}
use Rattle.notes_lines.proofs.Named.{all_notes}
use Rattle.notes_lines.proofs.operands.note_operands.Goals as goal

pub returns : goal.returns
returns c =
    all_notes _ _ _ _ c.end_of-end.ensures.0 _ _ c.first_names.ensures c.word_at-k.ensures.0 c.note_operand-next.ensures
    _ _ c.second_names.ensures c.word_at-l.ensures.0 c.note_operand.ensures
    (omega (arith, c.shared_slice_known-1.given c.args.i))
