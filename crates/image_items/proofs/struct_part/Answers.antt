-- `struct_part`: a text.
use borrow.Author.Rules.{rules}
use native.Mathlib.Omega.{arith}
use Rattle.image_judge.proofs.Items.{text_end}
use Rattle.image_items.proofs.Seeking.{struct_here, no_struct, struct_over}
use Rattle.image_items.proofs.struct_part.Goals as goal

pub returns-then-at-o : goal.returns-then-at-o
returns-then-at-o c = search (rules, struct_here)

pub returns-in_default : goal.returns-in_default
returns-in_default c = search (rules, no_struct)

pub overflow_add-next : goal.overflow_add-next
overflow_add-next c = let ends = text_end _ _ _ c.read_text.ensures _ _ c.in-Some.is in omega arith

pub returns : goal.returns
returns c = search (rules, struct_over)
