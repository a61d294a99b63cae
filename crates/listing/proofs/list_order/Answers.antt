-- `list_order`: the five checks.
use mathlib.Core.Path.{refl}
use Rattle.listing.proofs.Lent.{order_is}
use Rattle.listing.proofs.list_order.Goals as goal

pub returns : goal.returns
returns c =
    order_is _ _ _ _ _ c.counts_ok.ensures c.text_ok.ensures
    c.functions_ok.ensures c.main_ok.ensures (c.inside_codes.ensures _ _ refl refl)
