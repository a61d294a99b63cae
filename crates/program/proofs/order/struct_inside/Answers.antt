-- `program::order::struct_inside` meets its contract.
use Rattle.laws_programs.proofs.Checks.{struct_here}
use Rattle.std.proofs.Common.{rules}
use Rattle.program.proofs.order.struct_inside.Goals as goal

pub returns : goal.returns
returns c = search (rules, struct_here)
