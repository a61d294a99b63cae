-- `place_part`: a part cut to the store is the part.
use Rattle.layout.proofs.Parts.{part_is}
use borrow.Author.Rules.{rules}
use Rattle.noted_listing.proofs.functions.place_part.Goals as goal

pub returns : goal.returns
returns c = search (rules, part_is)
