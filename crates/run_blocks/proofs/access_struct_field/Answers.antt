-- `run_blocks::access_struct_field` meets its contract.
use borrow.Author.Rules.{rules}
use native.Mathlib.Omega.{arith}
use Rattle.value.proofs.Operands.{got_some}
use Rattle.cells.proofs.Pairs.{no_struct}
use Rattle.run_blocks.proofs.Cellwise.{field_none, field_wrong, field_pre, field_bad, field_got}
use Rattle.run_blocks.proofs.access_struct_field.Goals as goal

pub returns-in_default : goal.returns-in_default
returns-in_default c = search (rules, field_none)

pub returns-in_default-v : goal.returns-in_default-v
returns-in_default-v c =
    field_wrong c.requires.1 c.pop.ensures c.args.a c.in-Ok.is (λ j d. no_struct c.in-Ok.v (search rules) j d)

pub field-requires : goal.field-requires
field-requires c = search (rules, field_pre)

pub overflow_sub-sp : goal.overflow_sub-sp
overflow_sub-sp c = search (got_some, rules)

pub write_value-requires : goal.write_value-requires
write_value-requires c =
    omega (
      arith,
      got_some _ _ c.pop.ensures c.in-Ok.is,
      c.requires.1.stack.count,
      c.requires.1.stack.room,
    )

pub returns-in-Err : goal.returns-in-Err
returns-in-Err c = search (rules, field_bad)

pub returns-in-Ok-field : goal.returns-in-Ok-field
returns-in-Ok-field c = search (rules, field_got)
