-- `tally`: an instruction a turn.
use Rattle.check_code.proofs.Instructions.{nearer}
use Rattle.check_code.proofs.Entries.{none_entered, all_entered, one_entered}
use Rattle.std.proofs.Common.{rules}
use Rattle.check_code.proofs.tally.Goals as goal

pub loop-i-init : goal.loop-i-init
loop-i-init c = none_entered _ _

pub loop-i-smaller : goal.loop-i-smaller
loop-i-smaller c = search (rules, nearer)

pub loop-i-preserved : goal.loop-i-preserved
loop-i-preserved c = search (rules, one_entered)

pub returns : goal.returns
returns c = search (rules, all_entered)
