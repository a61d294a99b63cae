-- `cells::whole` meets its contract.
use borrow.Author.Rules.{rules}
use Rattle.cells.proofs.Scans.{whole_far, whole_none, whole_here}
use Rattle.cells.proofs.whole.Goals as goal

pub returns-then-used-p : goal.returns-then-used-p
returns-then-used-p c = whole_far _ _ _ c.if-used-p.true

pub returns-then-not-is_header : goal.returns-then-not-is_header
returns-then-not-is_header c = search (rules, whole_none)

pub returns : goal.returns
returns c = search (rules, whole_here)
