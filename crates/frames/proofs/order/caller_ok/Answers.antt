-- `frames::order::caller_ok` meets its contract.
use borrow.Author.Rules.{rules}
use native.Mathlib.Omega.{arith}
use Rattle.frames.proofs.Orders.{at_start, behind, innermost}
use Rattle.frames.proofs.order.caller_ok.Goals as goal

pub returns-then-i-n : goal.returns-then-i-n
returns-then-i-n c = innermost _ _ _ _ (omega arith)

pub returns-then-f-lt1 : goal.returns-then-f-lt1
returns-then-f-lt1 c = at_start _ _ _ _ (omega arith) (omega arith)

pub returns : goal.returns
returns c = search (rules, behind)
