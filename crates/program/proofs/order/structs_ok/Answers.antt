-- `program::order::structs_ok` meets its contract.
use Rattle.laws_programs.proofs.Checks.{structs_is, structs_not}
use Rattle.std.proofs.Common.{rules}
use Rattle.program.proofs.order.structs_ok.Goals as goal

pub returns-then-structs_inside : goal.returns-then-structs_inside
returns-then-structs_inside c = search (rules, structs_is)

pub returns-else-structs_inside : goal.returns-else-structs_inside
returns-else-structs_inside c = search (rules, structs_not)
