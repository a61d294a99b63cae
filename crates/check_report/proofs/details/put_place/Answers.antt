-- `put_place`: the instruction, and what the heights came upon.
use borrow.Author.Rules.{rules}
use Rattle.check_report.proofs.Saying.{place_put}
use Rattle.check_report.proofs.details.put_place.Goals as goal

pub returns : goal.returns
returns c = search (rules, place_put)
