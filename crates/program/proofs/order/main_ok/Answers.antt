-- `program::order::main_ok` meets its contract.
use Rattle.laws_programs.proofs.Checks.{main_is}
use Rattle.std.proofs.Common.{rules}
use Rattle.program.proofs.order.main_ok.Goals as goal

pub returns : goal.returns
returns c = search (rules, main_is)
