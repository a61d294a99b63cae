-- `write_number`: the loop puts a group a turn, and the last group follows it.
use native.Mathlib.Omega.{arith}
use borrow.Author.Rules.{rules}
use Rattle.number.proofs.Writing.{begins, inside, same_length as kept, goes_on_lem, done}
use Rattle.number.proofs.write_number.Goals as goal

pub loop-rest-init : goal.loop-rest-init
loop-rest-init c = begins _ _ _ (omega arith) c.requires

pub bounds-out-i : goal.bounds-out-i
bounds-out-i c = inside _ _ _ _ _ _ c.loop-rest.invariant

pub overflow_add-i : goal.overflow_add-i
overflow_add-i c = omega (arith, inside _ _ _ _ _ _ c.loop-rest.invariant)

pub loop-rest-preserved : goal.loop-rest-preserved
loop-rest-preserved c = search (rules, goes_on_lem)

pub bounds-out-i-2 : goal.bounds-out-i-2
bounds-out-i-2 c = inside _ _ _ _ _ _ c.loop-rest.invariant

pub overflow_add-result : goal.overflow_add-result
overflow_add-result c = omega (arith, inside _ _ _ _ _ _ c.loop-rest.invariant)

pub shape_of-out : goal.shape_of-out
shape_of-out c = kept _ _ _ _ _ _ c.loop-rest.invariant _

pub returns : goal.returns
returns c = search (rules, done)
