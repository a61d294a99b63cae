-- `run_arms::frames::go_back` meets its contract.
use borrow.Author.Rules.{rules}
use native.Mathlib.Omega.{arith}
use native.Mathlib.Numerals.{add-one}
use Rattle.value.proofs.Operands.{got_some}
use Rattle.run_arms.proofs.Posts.{returns_none, returns_last, returns_back}
use Rattle.run_arms.proofs.frames.go_back.Goals as goal

pub returns-in_default : goal.returns-in_default
returns-in_default c = search (rules, returns_none)

pub overflow_sub-below : goal.overflow_sub-below
overflow_sub-below c = search (got_some, rules)

pub returns-then-g-eq0 : goal.returns-then-g-eq0
returns-then-g-eq0 c = search (rules, returns_last)

pub write_value-requires : goal.write_value-requires
write_value-requires c =
    omega (
      arith,
      got_some _ _ c.pop.ensures c.in-Ok.is,
      c.lesser-at.ensures,
    )

pub returns : goal.returns
returns c = search (rules, returns_back, add-one)
