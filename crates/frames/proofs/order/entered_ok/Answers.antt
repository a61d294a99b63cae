-- `frames::order::entered_ok` meets its contract.
use native.Mathlib.Omega.{arith}
use Rattle.frames.proofs.Orders.{main, not_first, not_main}
use Rattle.frames.proofs.order.entered_ok.Goals as goal

pub returns-then-i-ne0 : goal.returns-then-i-ne0
returns-then-i-ne0 c = not_first _ _ _ c.if-i-ne0.true

pub returns-then-f-ne0 : goal.returns-then-f-ne0
returns-then-f-ne0 c = not_main _ _ _ (omega arith) c.if-f-ne0.true

pub returns : goal.returns
returns c = main _ _ _ (omega arith) (omega arith)
