-- `emission_code::code_room` meets its contract.
use mathlib.Core.Path.{refl}
use Rattle.laws_programs.proofs.Emitting.{room_main, room_other}
use Rattle.emission_code.proofs.code_room.Goals as goal

pub returns-then-c-eq0 : goal.returns-then-c-eq0
returns-then-c-eq0 c =
    λ rest fs. room_main _ rest fs _ _ _ _ _ _ _ c.if-c-eq0.true (c.room.ensures _ refl)
    (c.room-then-c-eq0.ensures _ refl) c.min.ensures

pub returns : goal.returns
returns c =
    λ rest fs. room_other _ rest fs _ _ _ _ _ _ _ c.if-c-eq0.false
    (c.room-2.ensures _ refl) (c.room-3.ensures _ refl) c.min-2.ensures
