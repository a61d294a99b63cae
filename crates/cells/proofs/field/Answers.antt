-- `cells::field` meets its contract.
use native.Mathlib.Omega.{arith}
use Rattle.cells.proofs.Fields.{head_room, field_none, field_room, field_got}
use Rattle.std.proofs.Common.{rules}
use Rattle.cells.proofs.field.Goals as goal

pub read_header-h-requires : goal.read_header-h-requires
read_header-h-requires c = head_room _ _ _ c.requires

pub overflow_add-p : goal.overflow_add-p
overflow_add-p c =
    let r = field_room _ _ _ c.requires _ c.read_header-h.ensures _ c.if-a-count.true in
    omega arith

pub overflow_add-p-then-a-count : goal.overflow_add-p-then-a-count
overflow_add-p-then-a-count c =
    let r = field_room _ _ _ c.requires _ c.read_header-h.ensures _ c.if-a-count.true in
    omega arith

pub read_value-requires : goal.read_value-requires
read_value-requires c = search (rules, field_room)

pub returns-then-a-count : goal.returns-then-a-count
returns-then-a-count c = search (rules, field_got)

pub returns-else-a-count : goal.returns-else-a-count
returns-else-a-count c = search (rules, field_none)
