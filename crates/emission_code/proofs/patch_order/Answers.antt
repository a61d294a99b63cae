-- `emission_code::patch_order` meets its contract.
use mathlib.Core.Path.{refl}
use Rattle.laws_programs.proofs.Emitting.{patch_order_is}
use Rattle.emission_code.proofs.patch_order.Goals as goal

pub returns : goal.returns
returns c =
    patch_order_is _ _ _ _ _ _ _ c.counts_ok.ensures c.functions_ok.ensures
    (c.inside_codes.ensures _ _ refl refl)
