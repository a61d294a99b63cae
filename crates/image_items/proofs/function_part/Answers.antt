-- `function_part`: the name, the length of the code, and the rest.
use borrow.Author.Rules.{rules}
use native.Mathlib.Omega.{arith}
use Rattle.image_judge.proofs.Items.{text_end}
use Rattle.image_items.proofs.Seeking.{name_here, no_name, length_here, no_length, number_ends, code_sought}
use Rattle.image_items.proofs.function_part.Goals as goal

pub returns-then-at-o : goal.returns-then-at-o
returns-then-at-o c = search (rules, name_here)

pub returns-in_default : goal.returns-in_default
returns-in_default c = search (rules, no_name)

pub overflow_add-behind : goal.overflow_add-behind
overflow_add-behind c = let ends = text_end _ _ _ c.read_text.ensures _ _ c.in-Some.is in omega arith

pub returns-then-behind-o : goal.returns-then-behind-o
returns-then-behind-o c = search (rules, length_here)

pub returns-in_default-read_number : goal.returns-in_default-read_number
returns-in_default-read_number c = search (rules, no_length)

pub code_part-requires : goal.code_part-requires
code_part-requires c = search (rules, number_ends)

pub returns : goal.returns
returns c = search (rules, code_sought)
