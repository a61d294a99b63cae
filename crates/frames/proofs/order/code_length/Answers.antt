-- `frames::order::code_length` meets its contract.
use Rattle.frames.proofs.Orders.{code_length}
use Rattle.frames.proofs.order.code_length.Goals as goal

pub returns : goal.returns
returns c = code_length _ _ c.second.ensures c.size_of.ensures.0
