-- `program::order::functions_ok` meets its contract.
use mathlib.Core.Path.{refl}
use Rattle.std.proofs.Common.{rules}
use Rattle.laws_programs.proofs.Checks.{functions_judged}
use Rattle.laws_programs.proofs.Every.{all_is, in_room, no_room}
use Rattle.program.proofs.order.functions_ok.Goals as goal

pub returns-then-n-room : goal.returns-then-n-room
returns-then-n-room c =
    in_room (functions_judged _ _) _ (c.room.ensures _ refl) c.if-n-room.true _
    (all_is _ _ c.all.ensures.ran refl (λ x q k. search rules) (λ x q k. search rules))

pub returns-else-n-room : goal.returns-else-n-room
returns-else-n-room c = no_room (functions_judged _ _) _ (c.room.ensures _ refl) c.if-n-room.false
