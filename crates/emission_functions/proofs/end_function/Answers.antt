-- `emission_functions::end_function` meets its contract.
use Rattle.laws_programs.proofs.Entered.{end_19, end_25, ended}
use Rattle.std.proofs.Common.{rules}
use Rattle.emission_functions.proofs.end_function.Goals as goal

pub returns-then-not-ok : goal.returns-then-not-ok
returns-then-not-ok c = search (rules, end_19)

pub returns-then-running : goal.returns-then-running
returns-then-running c = search (rules, end_25)

pub returns : goal.returns
returns c = search (rules, ended)
