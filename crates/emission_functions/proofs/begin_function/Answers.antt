-- `emission_functions::begin_function` meets its contract.
use mathlib.Core.Path.{refl}
use native.Mathlib.Omega.{arith}
use Rattle.layout.specs.Links.{names_lent}
use Rattle.layout.proofs.Rooms.{lent_fits}
use Rattle.laws_programs.proofs.Adding.{pair_fits, behind_fits, begin_19, begin_25, begin_22, begin_21, begin_text_21, begin_done}
use borrow.Author.Rules.{rules}
use Rattle.emission_functions.proofs.begin_function.Goals as goal

pub returns-then-not-ok : goal.returns-then-not-ok
returns-then-not-ok c = λ rest. begin_19 _ _ _ _ _ (c.function_order-ok.ensures rest) (search rules)

pub returns-then-running : goal.returns-then-running
returns-then-running c = λ rest. begin_25 _ _ _ _ _ (c.function_order-ok.ensures rest) (search rules) c.if-running.true

pub returns-then-n-ge-NAME_LIMIT : goal.returns-then-n-ge-NAME_LIMIT
returns-then-n-ge-NAME_LIMIT c = λ rest. begin_22 _ _ _ _ _ (c.function_order-ok.ensures rest) (search rules) c.if-running.false c.if-n-ge-NAME_LIMIT.true

pub returns-then-room-n : goal.returns-then-room-n
unfolding names_lent
returns-then-room-n c =
    λ rest. begin_21 _ _ _ _ _ (c.function_order-ok.ensures rest) (search rules) c.if-running.false
    c.if-n-ge-NAME_LIMIT.false _ (c.room.ensures _ refl) c.if-room-n.true

pub overflow_add-result-2 : goal.overflow_add-result-2
overflow_add-result-2 c = let h = lent_fits _ _ _ _ c.text_room.ensures c.if-not-text_room.false in omega arith

pub put_bytes-requires : goal.put_bytes-requires
put_bytes-requires c = (lent_fits _ _ _ _ c.text_room.ensures c.if-not-text_room.false).0

pub pack-requires : goal.pack-requires
pack-requires c =
    let h =
    lent_fits _ _ _ _ c.text_room.ensures c.if-not-text_room.false in
    (omega arith, omega arith)

pub pack-requires-2 : goal.pack-requires-2
pack-requires-2 c = (
  behind_fits _ _ _ _ c.function_order-ok.ensures (search rules) _ c.code_start-behind.ensures,
  search rules,
)

pub put_words-requires : goal.put_words-requires
put_words-requires c = pair_fits _ _ c.args.functions.now (c.room.ensures _ refl) c.if-room-n.false

pub returns : goal.returns
unfolding names_lent
returns c =
    λ rest. begin_done _ _ _ _ _ (c.function_order-ok.ensures rest) (search rules) c.if-running.false
    c.if-n-ge-NAME_LIMIT.false _ (c.room.ensures _ refl) c.if-room-n.false _ (c.text_room.ensures _ refl) c.if-not-text_room.false _ _ _ _ _
    c.code_start-behind.ensures c.put_bytes.ensures c.pack.ensures c.pack-2.ensures
    c.put_words.ensures

pub returns-then-not-text_room : goal.returns-then-not-text_room
unfolding names_lent
returns-then-not-text_room c =
    λ rest. begin_text_21 _ _ _ _ _ (c.function_order-ok.ensures rest) (search rules) c.if-running.false
    c.if-n-ge-NAME_LIMIT.false _ (c.room.ensures _ refl) c.if-room-n.false _ (c.text_room.ensures _ refl) c.if-not-text_room.true
