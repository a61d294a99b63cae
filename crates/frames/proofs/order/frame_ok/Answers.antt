-- `frames::order::frame_ok` meets its contract.
use native.Mathlib.Omega.{arith}
use Rattle.frames.proofs.Orders.{known, no_base, unknown}
use Rattle.frames.proofs.order.frame_ok.Goals as goal

pub returns-then-f-count : goal.returns-then-f-count
returns-then-f-count c = unknown _ _ _ (omega arith)

pub returns-then-f-slots : goal.returns-then-f-slots
returns-then-f-slots c = no_base _ _ _ (omega arith) (omega arith)

pub returns : goal.returns
returns c = known _ _ _ (omega arith) (omega arith)
