-- `whole`: an instruction a turn.
use Rattle.check_code.proofs.Instructions.{nearer}
use Rattle.check_code.proofs.Turns.{none_tested, all_pass, one_fails, one_passes}
use Rattle.std.proofs.Common.{rules}
use Rattle.check_code.proofs.whole.Goals as goal

pub loop-i-init : goal.loop-i-init
loop-i-init c = none_tested _ _

pub loop-i-smaller : goal.loop-i-smaller
loop-i-smaller c = search (rules, nearer)

pub loop-i-preserved : goal.loop-i-preserved
loop-i-preserved c = search (rules, one_passes)

pub returns-else-whole_at : goal.returns-else-whole_at
returns-else-whole_at c = search (rules, one_fails)

pub returns : goal.returns
returns c = search (rules, all_pass)
