-- `records::count`: record by record.
use denote.Param.Always.{mut_next}
use mathlib.Core.Path.{refl}
use native.Mathlib.Omega.{arith}
use Rattle.records.specs.Counting.{no_more, no_number}
use Rattle.records.proofs.Counts.{one_at_most, fewer, nothing, counted}
use Rattle.records.proofs.count.Goals as goal

pub loop-all-init : goal.loop-all-init
loop-all-init g c = (c.requires, nothing)

pub overflow_add-all-in-Ok : goal.overflow_add-all-in-Ok
overflow_add-all-in-Ok g c =
    let h = fewer c.loop-all.invariant.1 in
    let k = one_at_most _ c.from.ensures in
    omega (arith, h, k, c.loop-all-test.true)

pub loop-all-preserved : goal.loop-all-preserved
loop-all-preserved g c =
    (mut_next _ _ _ _ _ _ c.next.ensures refl c.loop-all.invariant.0, counted c.loop-all.invariant.1 c.in-Ok.ensures c.from.ensures)

pub returns-in-Err-clause-ended : goal.returns-in-Err-clause-ended
returns-in-Err-clause-ended g c = no_more c.loop-all.invariant.1 c.in-Err.ensures

pub returns-clause-ended : goal.returns-clause-ended
returns-clause-ended g c = no_number c.loop-all.invariant.1 (omega (arith, c.loop-all-test.false))
