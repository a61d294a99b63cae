-- `embed_reading::text` meets its contract.
use Rattle.laws_embed.proofs.Through.{room_fits, room_taken, text_through}
use Rattle.embed_reading.proofs.text.Goals as goal

pub slice_bounds-text_bytes-end : goal.slice_bounds-text_bytes-end
slice_bounds-text_bytes-end c = room_fits c.value_refusal-why.result _ c.lent_room-room.ensures

pub slice_bounds-text_bytes-end-2 : goal.slice_bounds-text_bytes-end-2
slice_bounds-text_bytes-end-2 c = room_taken c.value_refusal-why.result _ c.lent_room-room.ensures

pub returns : goal.returns
returns c =
    text_through _ _ _ c.vm_of-m.ensures _ c.value_refusal-why.ensures c.lent_room-room.ensures
    _ c.value_of-v.ensures _ c.text_bytes-told.ensures
    (c.answer_told.ensures _)
