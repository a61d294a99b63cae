-- `run_ends::copy_front` meets its contract.
use borrow.Author.Rules.{rules}
use Rattle.layout.proofs.Writing.{nothing_yet}
use Rattle.run_ends.proofs.Starting.{copies, copied}
use Rattle.run_ends.proofs.copy_front.Goals as goal

pub loop-i-init : goal.loop-i-init
loop-i-init c = nothing_yet _ _ _

pub loop-i-preserved : goal.loop-i-preserved
loop-i-preserved c = search (rules, copies)

pub returns : goal.returns
returns c = search (rules, copied)
