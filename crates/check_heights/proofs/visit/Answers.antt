-- `visit`: a height that suffices is entered where the instruction goes.
use Rattle.check_heights.proofs.Visits.{after_ready, visit_enters, visit_lacks}
use borrow.Author.Rules.{rules}
use Rattle.check_heights.proofs.visit.Goals as goal

pub height_after-g-requires : goal.height_after-g-requires
height_after-g-requires c = search (rules, after_ready)

pub returns-then-enough : goal.returns-then-enough
returns-then-enough c = search (rules, visit_enters)

pub returns : goal.returns
returns c = search (rules, visit_lacks)
