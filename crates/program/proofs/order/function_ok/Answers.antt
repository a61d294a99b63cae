-- `program::order::function_ok` meets its contract.
use Rattle.laws_programs.proofs.Checks.{function_is}
use Rattle.std.proofs.Common.{rules}
use Rattle.program.proofs.order.function_ok.Goals as goal

pub returns : goal.returns
returns c = search (rules, function_is)
