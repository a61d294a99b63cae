-- `prepare`: cleared, and then the start.
use Rattle.check_heights.proofs.Tables.{prepared_is}
use borrow.Author.Rules.{rules}
use Rattle.check_heights.proofs.prepare.Goals as goal

pub returns : goal.returns
returns c = search (rules, prepared_is)
