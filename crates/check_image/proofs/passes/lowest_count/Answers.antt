-- `lowest_count`: the place of the first entry that is 1.
use Rattle.std.proofs.Common.{rules, tests}
use Rattle.std.proofs.lemmas.Iterator.{YieldsList-from_slice}
use Rattle.std.proofs.lemmas.Iterator.Search.{position_from_yields_List}
use Rattle.check_image.proofs.Counting.{lowest_found}
use Rattle.check_image.proofs.passes.lowest_count.Goals as goal

pub returns : goal.returns
returns c = lowest_found _ _ c.requires c.position.result _
    (position_from_yields_List _ _ _ _ c.position.ensures.ran (YieldsList-from_slice _ c.iter.ensures.rest) (λ x b q k. search (rules, tests)))
    c.unwrap_or.ensures
