-- `program::order::text_ok` meets its contract.
use mathlib.Core.Path.{refl}
use Rattle.laws_programs.proofs.Checks.{text_is}
use Rattle.program.proofs.order.text_ok.Goals as goal

pub returns : goal.returns
returns c = text_is _ _ _ (c.room.ensures _ refl)
