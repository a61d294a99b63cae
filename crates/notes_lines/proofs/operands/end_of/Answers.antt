-- `end_of`: at most three operands.
use native.Mathlib.Omega.{arith}
use Rattle.notes_lines.proofs.Named.{at_most_3, end_is}
use borrow.Author.Rules.{rules}
use Rattle.notes_lines.proofs.operands.end_of.Goals as goal

pub overflow_mul-result : goal.overflow_mul-result
overflow_mul-result c = omega (arith, at_most_3 c.args.b (search rules))

pub overflow_add-result-2 : goal.overflow_add-result-2
overflow_add-result-2 c = omega (arith, at_most_3 c.args.b (search rules))

pub returns : goal.returns
returns c = end_is _ (search rules) _ _ c.operands.ensures
