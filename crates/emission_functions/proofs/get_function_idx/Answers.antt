-- `emission_functions::get_function_idx` meets its contract.
use Rattle.laws_programs.proofs.Adding.{index_19, index_told}
use Rattle.std.proofs.Common.{rules}
use Rattle.emission_functions.proofs.get_function_idx.Goals as goal

pub returns-then-not-function_order : goal.returns-then-not-function_order
returns-then-not-function_order c = search (rules, index_19)

pub returns : goal.returns
returns c = search (rules, index_told)
