-- `emission_functions::function_order` meets its contract.
use Rattle.laws_programs.proofs.Adding.{function_order_is}
use Rattle.std.proofs.Common.{rules}
use Rattle.emission_functions.proofs.function_order.Goals as goal

pub returns : goal.returns
returns c = search (rules, function_order_is)
