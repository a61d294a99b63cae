-- `frames::unenter` meets its contract.
use Rattle.std.proofs.Common.{arith}
use native.Mathlib.Numerals.{add-one}
use Rattle.frames.proofs.Unentering.{none_yet, one_more_of, all_of}
use Rattle.frames.proofs.unenter.Goals as goal

pub loop-f-init : goal.loop-f-init
loop-f-init c = none_yet _

pub loop-f-preserved : goal.loop-f-preserved
loop-f-preserved c = rw (add-one c.loop-f.f-index) (one_more_of _ _ _ c.loop-f.invariant (omega arith))

pub returns : goal.returns
returns c = rw c.loop-f.invariant (all_of _ _ _ c.loop-f-test.false)
