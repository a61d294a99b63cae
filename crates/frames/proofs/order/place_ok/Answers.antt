-- `frames::order::place_ok` meets its contract.
use Rattle.std.proofs.Common.{arith}
use Rattle.std.proofs.lemmas.Grind.{common_steps}
use Rattle.frames.specs.Links.{place_good}
use Rattle.frames.proofs.Orders.{function_known}
use Rattle.frames.proofs.order.place_ok.Goals as goal

pub caller_ok-requires : goal.caller_ok-requires
caller_ok-requires c = grind (arith, common_steps, function_known)

pub returns-then-entered_ok : goal.returns-then-entered_ok
unfolding place_good
returns-then-entered_ok c = grind (arith, common_steps)

pub returns-else-entered_ok : goal.returns-else-entered_ok
unfolding place_good
returns-else-entered_ok c = grind (arith, common_steps)
