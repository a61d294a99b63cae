-- `program::order::program_ok` meets its contract.
use Rattle.laws_programs.proofs.Checks.{whole_is}
use Rattle.std.proofs.Common.{rules}
use Rattle.program.proofs.order.program_ok.Goals as goal

pub returns : goal.returns
returns c = search (rules, whole_is)
