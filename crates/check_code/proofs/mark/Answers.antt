-- `mark`: an instruction a turn.
use native.Mathlib.Omega.{arith}
use borrow.Author.Rules.{rules}
use Rattle.check_code.proofs.Instructions.{nearer}
use Rattle.check_code.proofs.Marks.{none_marked, one_marked, all_marked}
use Rattle.check_code.proofs.mark.Goals as goal

pub loop-i-init : goal.loop-i-init
loop-i-init c = none_marked _ c.clear.ensures (omega arith)

pub loop-i-smaller : goal.loop-i-smaller
loop-i-smaller c = search (rules, nearer)

pub loop-i-preserved : goal.loop-i-preserved
loop-i-preserved c = search (rules, one_marked)

pub returns : goal.returns
returns c = search (rules, all_marked)
