-- `run_ends::slot_ok` meets its contract.
use borrow.Author.Rules.{rules}
use Rattle.run_ends.proofs.Judging.{slot_is}
use Rattle.run_ends.proofs.slot_ok.Goals as goal

pub returns : goal.returns
returns c = search (rules, slot_is)
