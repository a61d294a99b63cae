-- `put_heights`: a function a turn.
use borrow.Author.Rules.{rules}
use Rattle.printing.proofs.Puts.{kept}
use Rattle.check_report.proofs.Lines.{none_told, one_more, all_told}
use Rattle.check_report.proofs.facts.put_heights.Goals as goal

pub loop-f-init : goal.loop-f-init
loop-f-init c = none_told _ _ _ _

pub loop-f-preserved : goal.loop-f-preserved
loop-f-preserved c = search (rules, one_more)

pub shape_of-out : goal.shape_of-out
shape_of-out c = kept c.loop-f.invariant.put

pub returns : goal.returns
returns c = all_told c.loop-f.invariant c.loop-f-test.false
