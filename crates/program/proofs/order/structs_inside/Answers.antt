-- `program::order::structs_inside` meets its contract.
use mathlib.Core.Path.{refl}
use Rattle.std.proofs.Common.{rules}
use Rattle.laws_programs.proofs.Checks.{structs_judged}
use Rattle.laws_programs.proofs.Every.{all_is, in_room}
use Rattle.program.proofs.order.structs_inside.Goals as goal

pub returns-then-n-room : goal.returns-then-n-room
returns-then-n-room c =
    in_room (structs_judged c.args.c c.args.structs.now) _ (c.room.ensures _ refl) c.if-n-room.true _
    (all_is _ _ c.all.ensures.ran refl (λ x q k. search rules) (λ x q k. search rules))
