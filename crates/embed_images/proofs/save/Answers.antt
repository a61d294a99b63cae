-- `embed_images::save` meets its contract.
use Rattle.laws_embed.proofs.Through.{room_fits, room_taken, save_through}
use Rattle.embed_images.proofs.save.Goals as goal

pub slice_bounds-save-end : goal.slice_bounds-save-end
slice_bounds-save-end c = room_fits c.slices_refusal-why.result _ c.lent_room-room.ensures

pub slice_bounds-save-end-2 : goal.slice_bounds-save-end-2
slice_bounds-save-end-2 c = room_taken c.slices_refusal-why.result _ c.lent_room-room.ensures

pub returns : goal.returns
returns c =
    save_through _ _ _ c.vm_of-m.ensures _ c.slices_refusal-why.ensures c.lent_room-room.ensures
    _ c.save-told.ensures (c.answer_told.ensures _)
