-- `first_place`: an instruction a turn, over the marks.
use native.Mathlib.Omega.{arith}
use Rattle.check_code.proofs.Instructions.{nearer}
use Rattle.check_places.proofs.Turning.{none_sought, none_breaks, one_breaks, one_keeps}
use Rattle.std.proofs.Common.{rules}
use Rattle.check_places.proofs.first_place.Goals as goal

pub loop-i-init : goal.loop-i-init
loop-i-init c = none_sought _ _ _ _ _ _

pub keeps_at-requires : goal.keeps_at-requires
keeps_at-requires c = (omega arith, omega arith, search)

pub loop-i-smaller : goal.loop-i-smaller
loop-i-smaller c = search (rules, nearer)

pub loop-i-preserved : goal.loop-i-preserved
loop-i-preserved c = search (rules, one_keeps)

pub returns-else-keeps_at : goal.returns-else-keeps_at
returns-else-keeps_at c = search (rules, one_breaks)

pub returns : goal.returns
returns c = search (rules, none_breaks)
