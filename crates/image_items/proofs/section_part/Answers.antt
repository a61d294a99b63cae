-- `section_part`: the count, and the row behind it.
use borrow.Author.Rules.{rules}
use Rattle.image_items.proofs.Seeking.{count_here, no_count, number_ends, row_sought}
use Rattle.image_items.proofs.section_part.Goals as goal

pub returns-then-at-o : goal.returns-then-at-o
returns-then-at-o c = search (rules, count_here)

pub returns-in_default : goal.returns-in_default
returns-in_default c = search (rules, no_count)

pub row_part-requires : goal.row_part-requires
row_part-requires c = search (rules, number_ends)

pub returns : goal.returns
returns c = search (rules, row_sought)
