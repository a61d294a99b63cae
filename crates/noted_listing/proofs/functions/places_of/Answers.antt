-- `places_of`: by the test.
use Rattle.noted_listing.proofs.Lent.{main_places_lem, other_places_lem}
use borrow.Author.Rules.{rules}
use Rattle.noted_listing.proofs.functions.places_of.Goals as goal

pub returns-then-i-eq0 : goal.returns-then-i-eq0
returns-then-i-eq0 c = search (rules, main_places_lem)

pub returns : goal.returns
returns c = search (rules, other_places_lem)
