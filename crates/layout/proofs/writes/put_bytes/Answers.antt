-- `layout::writes::put_bytes` meets its contract.
use Rattle.layout.proofs.Writing.{nothing_yet, another, whole}
use Rattle.std.proofs.Common.{rules}
use Rattle.layout.proofs.writes.put_bytes.Goals as goal

pub loop-i-init : goal.loop-i-init
loop-i-init c = nothing_yet _ _ _

pub loop-i-preserved : goal.loop-i-preserved
loop-i-preserved c = search (rules, another)

pub returns : goal.returns
returns c = whole c.loop-i.invariant c.loop-i-test.false
