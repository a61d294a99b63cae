-- `layout::ordered::before` meets its contract.
use Rattle.laws_names.proofs.Before.{comparing_start, second_ends, first_ends, differ_here, agree_here}
use Rattle.std.proofs.Common.{rules}
use Rattle.layout.proofs.ordered.before.Goals as goal

pub loop-i-init : goal.loop-i-init
loop-i-init c = comparing_start _ _

pub returns-then-b-i : goal.returns-then-b-i
returns-then-b-i c = search (rules, second_ends)

pub returns-then-a-i : goal.returns-then-a-i
returns-then-a-i c = search (rules, differ_here)

pub loop-i-preserved : goal.loop-i-preserved
loop-i-preserved c = search (rules, agree_here)

pub returns : goal.returns
returns c = search (rules, first_ends)
