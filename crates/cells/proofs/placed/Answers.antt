-- `cells::placed` meets its contract.
use borrow.Author.Rules.{rules}
use Rattle.cells.proofs.Scans.{placed_string, placed_reference, placed_struct, placed_no, placed_plain, whole_room, placed_list}
use Rattle.cells.proofs.placed.Goals as goal

pub returns-then-not-whole : goal.returns-then-not-whole
returns-then-not-whole c = search (rules, placed_no)

pub read_header-h-requires : goal.read_header-h-requires
read_header-h-requires c = search (rules, whole_room)

pub returns-in-String : goal.returns-in-String
returns-in-String c = placed_string _ _ _ _ _ _ c.in-String.is

pub returns-in-FunctionReference : goal.returns-in-FunctionReference
returns-in-FunctionReference c = placed_reference _ _ _ _ _ _ c.in-FunctionReference.is

pub returns-else-not-whole : goal.returns-else-not-whole
returns-else-not-whole c = search (rules, placed_list)

pub returns-in-StructInstance : goal.returns-in-StructInstance
returns-in-StructInstance c = search (rules, placed_struct)

pub returns-in_default : goal.returns-in_default
returns-in_default c = search (rules, placed_plain)
