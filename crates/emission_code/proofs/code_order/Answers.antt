-- `emission_code::code_order` meets its contract.
use mathlib.Core.Path.{refl}
use Rattle.laws_programs.proofs.Emitting.{order_is}
use Rattle.emission_code.proofs.code_order.Goals as goal

pub returns : goal.returns
returns c =
    order_is _ _ _ _ _ _ _ _ _ _ c.counts_ok.ensures c.functions_ok.ensures
    (c.inside_codes.ensures _ _ refl refl) (c.inside_codes-2.ensures _ _ refl refl)
