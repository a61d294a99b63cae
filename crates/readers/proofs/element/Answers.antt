use native.Mathlib.Omega.{arith}
use Rattle.std.proofs.lemmas.Result.{err_from_is_err_and}
use Rattle.readers.proofs.Shows.{head_room, element_refused, no_element, element_room, element_shown_lem, element_misplaced}
use Rattle.readers.proofs.element.Goals as goal

pub returns-in_err-header : goal.returns-in_err-header
returns-in_err-header c =
    let p = err_from_is_err_and c.from_residual.result c.from_residual.ensures.1 in
    rw (p.1, p.2) (element_refused _ _ _ c.in_err-header.ensures _)

pub read_header-count-requires : goal.read_header-count-requires
read_header-count-requires c = head_room _ _ _ c.in_ok-header.ensures

pub returns-then-count-i : goal.returns-then-count-i
returns-then-count-i c = no_element _ _ _ c.in_ok-header.ensures c.read_header-count.ensures _ c.if-count-i.true

pub overflow_add-at : goal.overflow_add-at
overflow_add-at c =
    let z =
    element_room _ _ _ c.in_ok-header.ensures c.read_header-count.ensures _ c.if-count-i.false in
    omega arith

pub overflow_add-at-2 : goal.overflow_add-at-2
overflow_add-at-2 c =
    let z =
    element_room _ _ _ c.in_ok-header.ensures c.read_header-count.ensures _ c.if-count-i.false in
    omega arith

pub read_value-x-requires : goal.read_value-x-requires
read_value-x-requires c = element_room _ _ _ c.in_ok-header.ensures c.read_header-count.ensures _ c.if-count-i.false

pub placed-requires : goal.placed-requires
placed-requires c =
    let z =
    head_room _ _ _ c.in_ok-header.ensures in
    omega arith

pub returns-then-not-placed : goal.returns-then-not-placed
returns-then-not-placed c =
    element_misplaced _ _ _ c.in_ok-header.ensures c.read_header-count.ensures _ c.if-count-i.false c.read_value-x.ensures
    c.placed.ensures c.if-not-placed.true

pub value_at-requires : goal.value_at-requires
value_at-requires c = element_room _ _ _ c.in_ok-header.ensures c.read_header-count.ensures _ c.if-count-i.false

pub returns : goal.returns
returns c =
    element_shown_lem _ _ _ c.in_ok-header.ensures c.read_header-count.ensures _ c.if-count-i.false c.read_value-x.ensures
    c.placed.ensures c.if-not-placed.false c.value_at.ensures
