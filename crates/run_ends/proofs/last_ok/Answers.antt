-- `run_ends::last_ok` meets its contract.
use borrow.Author.Rules.{rules}
use Rattle.run_ends.proofs.Judging.{no_last_lem, some_last_lem}
use Rattle.run_ends.proofs.last_ok.Goals as goal

pub returns-in-None : goal.returns-in-None
returns-in-None c = no_last_lem _ _ _ c.in-None.is

pub returns-in-Some : goal.returns-in-Some
returns-in-Some c = search (rules, some_last_lem)
