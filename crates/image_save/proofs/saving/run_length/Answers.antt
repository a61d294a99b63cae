-- `image_save::saving::run_length` meets its contract.
use Rattle.std.proofs.Common.{rules, tests}
use Rattle.std.proofs.lemmas.Iterator.{YieldsList-from_slice}
use Rattle.std.proofs.lemmas.Iterator.Search.{position_from_yields_List}
use Rattle.image_save.proofs.Putting.{run_found}
use Rattle.image_save.proofs.saving.run_length.Goals as goal

pub returns : goal.returns
returns c = run_found _ _ _ c.requires c.position.result _
    (position_from_yields_List _ _ _ _ c.position.ensures.ran (YieldsList-from_slice _ c.iter.ensures.rest) (λ x b q k. search (rules, tests)))
    c.unwrap_or.ensures
