-- `emission_constants::text_constant` meets its contract.
use mathlib.Core.Path.{refl}
use native.Mathlib.Omega.{arith}
use Rattle.layout.specs.Links.{constants_lent}
use Rattle.layout.proofs.Rooms.{lent_fits}
use Rattle.laws_programs.proofs.Adding.{text_21, text_added}
use Rattle.emission_constants.proofs.text_constant.Goals as goal

pub returns-then-not-text_room : goal.returns-then-not-text_room
unfolding constants_lent
returns-then-not-text_room c = λ rest. text_21 _ _ _ _ _ (c.text_room.ensures _ refl) c.if-not-text_room.true

pub put_bytes-requires : goal.put_bytes-requires
put_bytes-requires c = (lent_fits _ _ _ _ c.text_room.ensures c.if-not-text_room.false).0

pub pack-requires : goal.pack-requires
pack-requires c =
    let h =
    lent_fits _ _ _ _ c.text_room.ensures c.if-not-text_room.false in
    (omega arith, omega arith)

pub overflow_add-result-2 : goal.overflow_add-result-2
overflow_add-result-2 c = let h = lent_fits _ _ _ _ c.text_room.ensures c.if-not-text_room.false in omega arith

pub returns : goal.returns
unfolding constants_lent
returns c =
    λ rest. text_added _ _ _ _ _ (c.text_room.ensures _ refl) c.if-not-text_room.false _ _ _
    c.put_bytes.ensures c.pack.ensures c.put_words.ensures
