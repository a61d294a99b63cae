-- `program::order::inside_codes` meets its contract.
use Rattle.laws_programs.proofs.Checks.{codes_is}
use Rattle.program.proofs.order.inside_codes.Goals as goal

pub returns : goal.returns
returns c =
    λ m o em eo. codes_is _ _ _ _ _ _ c.code_end.ensures c.code_start.ensures m o
    (c.room.ensures m em) (c.room-2.ensures o eo)
