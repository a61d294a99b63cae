-- `entry_part`: by the row.
use borrow.Author.Rules.{rules}
use Rattle.image_items.proofs.Seeking.{of_constants, of_structs, of_functions}
use Rattle.image_items.proofs.entry_part.Goals as goal

pub returns-in-Constants : goal.returns-in-Constants
returns-in-Constants c = search (rules, of_constants)

pub returns-in-Structs : goal.returns-in-Structs
returns-in-Structs c = search (rules, of_structs)

pub returns-in-Functions : goal.returns-in-Functions
returns-in-Functions c = search (rules, of_functions)
