-- `has_room_lem`: store by store.
use mathlib.Core.Path.{refl}
use Rattle.image_load.proofs.Loads.{room_by}
use Rattle.image_load.proofs.has_room.Goals as goal

pub returns : goal.returns
returns c =
    λ p h. let a = c.args in
    room_by p _ _ _ _ _ _ _ _ _ _ h (c.room.ensures a.constants.now refl)
    (c.room-2.ensures a.structs.now refl) (c.room-3.ensures a.functions.now refl)
    (c.room-4.ensures a.text.now refl) (c.room-5.ensures a.main.now refl)
    (c.room-6.ensures a.main_places.now refl) (c.room-7.ensures a.other.now refl)
    (c.room-8.ensures a.other_places.now refl)
