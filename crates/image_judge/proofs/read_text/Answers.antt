-- `image_judge::read_text` meets its contract.
use Rattle.image_judge.proofs.Items.{text_none, text_starts, text_short, text_read}
use Rattle.std.proofs.Common.{rules}
use Rattle.image_judge.proofs.read_text.Goals as goal

pub returns-in_err-n : goal.returns-in_err-n
returns-in_err-n c = rw c.from_residual.ensures (text_none _ _ c.requires _ c.read_number.ensures c.in_err-n.was)

pub overflow_sub-image : goal.overflow_sub-image
overflow_sub-image c = text_starts _ _ c.requires _ c.read_number.ensures _ _ _ c.in_ok-n.was c.wide-len.ensures

pub returns-then-image-start : goal.returns-then-image-start
returns-then-image-start c = search (rules, text_short, c.in_ok-n.was)

pub returns : goal.returns
returns c = search (rules, text_read, c.in_ok-n.was)
