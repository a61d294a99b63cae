-- `embed_images::disassemble` meets its contract.
use Rattle.laws_embed.proofs.Through.{room_fits, room_taken, list_through}
use Rattle.embed_images.proofs.disassemble.Goals as goal

pub slice_bounds-disassemble-end : goal.slice_bounds-disassemble-end
slice_bounds-disassemble-end c = room_fits c.slices_refusal-why.result _ c.lent_room-room.ensures

pub slice_bounds-disassemble-end-2 : goal.slice_bounds-disassemble-end-2
slice_bounds-disassemble-end-2 c = room_taken c.slices_refusal-why.result _ c.lent_room-room.ensures

pub returns : goal.returns
returns c =
    λ rest. list_through _ _ _ c.vm_of-m.ensures _ c.slices_refusal-why.ensures
    c.lent_room-room.ensures _ (c.disassemble-told.ensures rest)
    (c.answer_listed.ensures _)
