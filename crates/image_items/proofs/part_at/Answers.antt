-- `part_at`: row by row.
use borrow.Author.Rules.{rules}
use Rattle.image_items.proofs.Seeking.{behind_inside, in_constants, in_structs, in_functions, at_the_end, past_the_end}
use Rattle.image_items.proofs.part_at.Goals as goal

pub section_part-requires-in-On : goal.section_part-requires-in-On
section_part-requires-in-On c = search (rules, behind_inside)

pub section_part-requires-in-On-section_part : goal.section_part-requires-in-On-section_part
section_part-requires-in-On-section_part c = search (rules, behind_inside)

pub returns-then-end-o : goal.returns-then-end-o
returns-then-end-o c = search (rules, at_the_end)

pub returns-in-Is : goal.returns-in-Is
returns-in-Is c = search (rules, in_constants)

pub returns-in-Is-section_part : goal.returns-in-Is-section_part
returns-in-Is-section_part c = search (rules, in_structs)

pub returns-in-Is-section_part-2 : goal.returns-in-Is-section_part-2
returns-in-Is-section_part-2 c = search (rules, in_functions)

pub returns-else-end-o : goal.returns-else-end-o
returns-else-end-o c = search (rules, past_the_end)
