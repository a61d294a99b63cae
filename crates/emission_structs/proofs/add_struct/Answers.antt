-- `emission_structs::add_struct` meets its contract.
use mathlib.Core.Path.{refl}
use native.Mathlib.Omega.{arith}
use Rattle.layout.specs.Links.{structs_lent}
use Rattle.layout.proofs.Rooms.{lent_fits}
use Rattle.laws_programs.proofs.Adding.{pair_fits, struct_22, struct_21, struct_text_21, struct_added_lem}
use Rattle.emission_structs.proofs.add_struct.Goals as goal

pub returns-then-n-ge-NAME_LIMIT : goal.returns-then-n-ge-NAME_LIMIT
returns-then-n-ge-NAME_LIMIT c = λ rest. struct_22 _ _ _ c.if-n-ge-NAME_LIMIT.true

pub returns-then-room-n : goal.returns-then-room-n
unfolding structs_lent
returns-then-room-n c = λ rest. struct_21 _ _ _ c.if-n-ge-NAME_LIMIT.false _ (c.room.ensures _ refl) c.if-room-n.true

pub overflow_add-result-2 : goal.overflow_add-result-2
overflow_add-result-2 c = let h = lent_fits _ _ _ _ c.text_room.ensures c.if-not-text_room.false in omega arith

pub put_bytes-requires : goal.put_bytes-requires
put_bytes-requires c = (lent_fits _ _ _ _ c.text_room.ensures c.if-not-text_room.false).0

pub pack-requires : goal.pack-requires
pack-requires c =
    let h =
    lent_fits _ _ _ _ c.text_room.ensures c.if-not-text_room.false in
    (omega arith, omega arith)

pub put_struct-requires : goal.put_struct-requires
put_struct-requires c = (c.requires.spot.most, pair_fits _ _ c.args.structs.now (c.room.ensures _ refl) c.if-room-n.false)

pub returns : goal.returns
unfolding structs_lent
returns c =
    λ rest. struct_added_lem _ _ _ c.if-n-ge-NAME_LIMIT.false _ (c.room.ensures _ refl) c.if-room-n.false _
    (c.text_room.ensures _ refl) c.if-not-text_room.false _ _ _ _ c.requires c.put_bytes.ensures
    c.pack.ensures c.put_struct.ensures

pub returns-then-not-text_room : goal.returns-then-not-text_room
unfolding structs_lent
returns-then-not-text_room c =
    λ rest. struct_text_21 _ _ _ c.if-n-ge-NAME_LIMIT.false _ (c.room.ensures _ refl) c.if-room-n.false _
    (c.text_room.ensures _ refl) c.if-not-text_room.true
