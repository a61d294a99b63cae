-- `write_header`: its pieces one behind the other.
use Rattle.listing.proofs.Pieces.{header_is}
use borrow.Author.Rules.{rules}
use Rattle.listing.proofs.write_header.Goals as goal

pub returns : goal.returns
returns c = search (rules, header_is)
