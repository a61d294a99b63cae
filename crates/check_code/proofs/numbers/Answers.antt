-- `numbers`: an instruction a turn.
use Rattle.check_code.proofs.Instructions.{nearer}
use Rattle.check_code.proofs.Turns.{none_numbered, all_in_range, one_out_of_range, one_in_range}
use Rattle.std.proofs.Common.{rules}
use Rattle.check_code.proofs.numbers.Goals as goal

pub loop-i-init : goal.loop-i-init
loop-i-init c = none_numbered _ _ _ _

pub loop-i-smaller : goal.loop-i-smaller
loop-i-smaller c = search (rules, nearer)

pub loop-i-preserved : goal.loop-i-preserved
loop-i-preserved c = search (rules, one_in_range)

pub returns-else-numbers_at : goal.returns-else-numbers_at
returns-else-numbers_at c = search (rules, one_out_of_range)

pub returns : goal.returns
returns c = search (rules, all_in_range)
