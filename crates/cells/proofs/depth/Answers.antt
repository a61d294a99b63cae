-- `cells::depth` meets its contract.
use borrow.Author.Rules.{rules}
use Rattle.cells.proofs.Builds.{list_room, struct_room, list_depth, struct_depth, plain_depth}
use Rattle.cells.proofs.depth.Goals as goal

pub read_header-h-requires : goal.read_header-h-requires
read_header-h-requires c = search (rules, list_room)

pub read_header-h-requires-in-StructInstance : goal.read_header-h-requires-in-StructInstance
read_header-h-requires-in-StructInstance c = search (rules, struct_room)

pub returns-in-List : goal.returns-in-List
returns-in-List c = search (rules, list_depth)

pub returns-in-StructInstance : goal.returns-in-StructInstance
returns-in-StructInstance c = search (rules, struct_depth)

pub returns-in_default : goal.returns-in_default
returns-in_default c = search (rules, plain_depth)
