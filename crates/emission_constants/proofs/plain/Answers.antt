-- `emission_constants::plain` meets its contract.
use Rattle.layout.specs.Links.{constants_lent}
use Rattle.laws_programs.proofs.Adding.{plain_added}
use borrow.Author.Rules.{rules}
use Rattle.emission_constants.proofs.plain.Goals as goal

pub returns : goal.returns
unfolding constants_lent
returns c = search (rules, plain_added)
