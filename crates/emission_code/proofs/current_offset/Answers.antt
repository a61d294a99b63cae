-- `emission_code::current_offset` meets its contract.
use Rattle.laws_programs.proofs.Entered.{offset_told, offset_refused}
use Rattle.std.proofs.Common.{rules}
use Rattle.emission_code.proofs.current_offset.Goals as goal

pub returns-then-not-counts_ok-functions_ok : goal.returns-then-not-counts_ok-functions_ok
returns-then-not-counts_ok-functions_ok c = search (rules, offset_refused)

pub returns : goal.returns
returns c = search (rules, offset_told)
