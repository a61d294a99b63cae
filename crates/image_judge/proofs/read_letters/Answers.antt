-- `image_judge::read_letters` meets its contract.
use native.Mathlib.Omega.{arith}
use Rattle.image_judge.proofs.Items.{text_end, letters_none, letters_read}
use Rattle.std.proofs.Common.{rules}
use Rattle.image_judge.proofs.read_letters.Goals as goal

pub returns-in_default : goal.returns-in_default
returns-in_default c = search (rules, letters_none)

pub overflow_add-result : goal.overflow_add-result
overflow_add-result c = let z = text_end _ _ _ c.read_text.ensures _ _ c.in-Some.is in omega arith

pub returns : goal.returns
returns c = search (rules, letters_read)
