-- `put_entries`: an entry a turn.
use borrow.Author.Rules.{rules}
use Rattle.printing.proofs.Puts.{kept}
use Rattle.report_lines.proofs.Lines.{none_traced, one_more, all_traced}
use Rattle.report_lines.proofs.runs.put_entries.Goals as goal

pub loop-i-init : goal.loop-i-init
loop-i-init c = none_traced _ _ _ _

pub loop-i-preserved : goal.loop-i-preserved
loop-i-preserved c = search (rules, one_more)

pub shape_of-out : goal.shape_of-out
shape_of-out c = kept c.loop-i.invariant.put

pub returns : goal.returns
returns c = all_traced c.loop-i.invariant c.loop-i-test.false
