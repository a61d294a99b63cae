-- `constant_part`: its kind, its value, and the whole.
use borrow.Author.Rules.{rules}
use Rattle.image_items.proofs.Seeking.{kind_here, no_kind, value_here, no_constant, constant_over}
use Rattle.image_items.proofs.constant_part.Goals as goal

pub returns-then-at-o : goal.returns-then-at-o
returns-then-at-o c = search (rules, kind_here)

pub returns-in_default : goal.returns-in_default
returns-in_default c = search (rules, no_kind)

pub returns-then-value-o : goal.returns-then-value-o
returns-then-value-o c = search (rules, value_here)

pub returns-in_default-read_constant : goal.returns-in_default-read_constant
returns-in_default-read_constant c = search (rules, no_constant)

pub returns : goal.returns
returns c = search (rules, constant_over)
