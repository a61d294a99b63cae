-- `number::groups` meets its contract: zero has one group, any other number as many as its leading zeros leave.
use native.Mathlib.Omega.{arith}
use lib.Count.{leading_le}
use Rattle.number.proofs.Digits.{size, by_leading_zeros}
use Rattle.number.proofs.groups.Goals as goal

pub returns-then-n-eq0 : goal.returns-then-n-eq0
returns-then-n-eq0 c = size 0 _ (omega arith) (omega arith) (omega arith)

pub overflow_sub-result : goal.overflow_sub-result
overflow_sub-result c = let z = leading_le 32 c.args.n in omega arith

pub overflow_cast-result : goal.overflow_cast-result
overflow_cast-result c = record { fits = omega arith }

pub returns : goal.returns
returns c = by_leading_zeros _ (omega arith) (omega arith)
