-- `run_blocks::equal` meets its contract.
use borrow.Author.Rules.{rules}
use native.Mathlib.Omega.{arith}
use Rattle.value.proofs.Operands.{got_some}
use Rattle.run_blocks.proofs.Cellwise.{equal_none, equal_one, equal_pre, left_of_lem, equal_out, equal_done}
use Rattle.run_blocks.proofs.equal.Goals as goal

pub returns-in_default : goal.returns-in_default
returns-in_default c = search (rules, equal_none)

pub overflow_sub-count : goal.overflow_sub-count
overflow_sub-count c = search (got_some, rules)

pub returns-in_default-pop : goal.returns-in_default-pop
returns-in_default-pop c = search (rules, equal_one)

pub equal-requires : goal.equal-requires
equal-requires c = search (rules, equal_pre)

pub overflow_sub-count-2 : goal.overflow_sub-count-2
overflow_sub-count-2 c = search (got_some, rules)

pub write_value-requires : goal.write_value-requires
write_value-requires c = omega (arith, got_some _ _ c.pop-2.ensures c.in-Ok-pop.is, c.requires.stack.count, c.requires.stack.room)

pub overflow_sub-spent : goal.overflow_sub-spent
overflow_sub-spent c = omega (arith, left_of_lem _ _ c.equal.ensures c.in-Some.is)

pub returns-in_default-equal : goal.returns-in_default-equal
returns-in_default-equal c = search (rules, equal_out)

pub returns : goal.returns
returns c =
    λ u h. equal_done _ c.requires c.pop.ensures c.in-Ok.is c.pop-2.ensures c.in-Ok-pop.is
    c.equal.ensures _ u h c.in-Some.is c.told-v.ensures c.write_value.ensures
