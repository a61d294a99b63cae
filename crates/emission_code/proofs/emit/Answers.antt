-- `emission_code::emit` meets its contract.
use mathlib.Core.Path.{refl}
use native.Mathlib.Omega.{arith}
use Rattle.layout.specs.Links.{code_lent}
use Rattle.laws_programs.proofs.Emitting.{lent_known, lent_main, lent_other, size_short, emit_19, emit_25, emit_22, emit_21, emit_1, emitted_main, emitted_other}
use borrow.Author.Rules.{rules}
use Rattle.emission_code.proofs.emit.Goals as goal

pub returns-then-not-ok : goal.returns-then-not-ok
returns-then-not-ok c = λ rest. emit_19 _ _ _ _ _ _ _ (c.code_order-ok.ensures rest) (search rules)

pub returns-then-running : goal.returns-then-running
returns-then-running c = λ rest. emit_25 _ _ _ _ _ _ _ (c.code_order-ok.ensures rest) (search rules) c.if-running.true

pub overflow_sub-size : goal.overflow_sub-size
overflow_sub-size c =
    size_short _ _ (lent_known _ _ _ _ _ _ _ c.code_order-ok.ensures (search rules)) _ _
    c.second-word.ensures c.size_of-size.ensures.0

pub returns-then-size-n : goal.returns-then-size-n
unfolding code_lent
returns-then-size-n c =
    λ rest. emit_22 _ _ _ _ _ _ _ (c.code_order-ok.ensures rest) (search rules) c.if-running.false _ _ _ c.second-word.ensures
    c.start_of-start.ensures.0 c.size_of-size.ensures.0 c.if-size-n.true

pub returns-then-room-end : goal.returns-then-room-end
unfolding code_lent
returns-then-room-end c =
    λ rest. emit_21 _ _ _ _ _ _ _ (c.code_order-ok.ensures rest) (search rules) c.if-running.false _ _ _ c.second-word.ensures
    c.start_of-start.ensures.0 c.size_of-size.ensures.0 c.if-size-n.false _
    (c.code_room-room.ensures rest _) c.if-room-end.true

pub returns-then-op-ge38 : goal.returns-then-op-ge38
unfolding code_lent
returns-then-op-ge38 c =
    λ rest. emit_1 _ _ _ _ _ _ _ (c.code_order-ok.ensures rest) (search rules) c.if-running.false _ _ _ c.second-word.ensures
    c.start_of-start.ensures.0 c.size_of-size.ensures.0 c.if-size-n.false _
    (c.code_room-room.ensures rest _) c.if-room-end.false c.if-op-ge38.true

pub overflow_mul-functions : goal.overflow_mul-functions
overflow_mul-functions c =
    let k =
    lent_known _ _ _ _ _ _ _ c.code_order-ok.ensures (search rules) in
    omega arith

pub overflow_add-functions : goal.overflow_add-functions
overflow_add-functions c =
    let k =
    lent_known _ _ _ _ _ _ _ c.code_order-ok.ensures (search rules) in
    omega arith

pub offset_bounds-functions-current : goal.offset_bounds-functions-current
offset_bounds-functions-current c =
    let k =
    lent_known _ _ _ _ _ _ _ c.code_order-ok.ensures (search rules) in
    omega arith

pub bounds-functions-current : goal.bounds-functions-current
bounds-functions-current c =
    let k =
    lent_known _ _ _ _ _ _ _ c.code_order-ok.ensures (search rules) in
    omega arith

pub put_code-requires : goal.put_code-requires
put_code-requires c = lent_main _ _ _ _ _ _ _ c.code_room-room.ensures c.if-room-end.false c.if-current-eq0.true

pub returns-then-current-eq0 : goal.returns-then-current-eq0
unfolding code_lent
returns-then-current-eq0 c =
    λ rest. emitted_main _ _ _ _ _ _ _ (c.code_order-ok.ensures rest) (search rules) c.if-running.false _ _ _
    c.second-word.ensures c.start_of-start.ensures.0 c.size_of-size.ensures.0 c.if-size-n.false _
    (c.code_room-room.ensures rest _) c.if-room-end.false c.if-op-ge38.false _ c.pack.ensures _ _ _ refl
    c.if-current-eq0.true c.put_code.ensures.0 c.put_code.ensures.1

pub put_code-requires-2 : goal.put_code-requires-2
put_code-requires-2 c = lent_other _ _ _ _ _ _ _ c.code_room-room.ensures c.if-room-end.false c.if-current-eq0.false

pub returns : goal.returns
unfolding code_lent
returns c =
    λ rest. emitted_other _ _ _ _ _ _ _ (c.code_order-ok.ensures rest) (search rules) c.if-running.false _ _ _
    c.second-word.ensures c.start_of-start.ensures.0 c.size_of-size.ensures.0 c.if-size-n.false _
    (c.code_room-room.ensures rest _) c.if-room-end.false c.if-op-ge38.false _ c.pack.ensures _ _ _ refl
    c.if-current-eq0.false c.put_code-2.ensures.0 c.put_code-2.ensures.1
