-- `write_function`: the lines behind the header.
use Rattle.listing.proofs.Judging.{then}
use borrow.Author.Rules.{rules}
use Rattle.listing.proofs.write_function.Goals as goal

pub returns : goal.returns
returns c = search (rules, then)
