-- `code_of`: by the test.
use Rattle.listing.proofs.Lent.{main_code, other_code}
use borrow.Author.Rules.{rules}
use Rattle.listing.proofs.code_of.Goals as goal

pub returns-then-i-eq0 : goal.returns-then-i-eq0
returns-then-i-eq0 c = main_code _ _ _ _ _ c.second-word.ensures (search rules) _ c.if-i-eq0.true c.part.ensures

pub returns : goal.returns
returns c = other_code _ _ _ _ _ c.second-word.ensures (search rules) _ c.if-i-eq0.false c.part-2.ensures
