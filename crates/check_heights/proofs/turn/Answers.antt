-- `turn`: a position that no path has come to is passed.
use Rattle.check_heights.proofs.Visits.{visit_ready, turn_passes, turn_sees, turn_breaks}
use Rattle.std.proofs.lemmas.Result.{err_from_is_err_and}
use borrow.Author.Rules.{rules}
use Rattle.check_heights.proofs.turn.Goals as goal

pub returns-then-known-eq0 : goal.returns-then-known-eq0
returns-then-known-eq0 c = search (rules, turn_passes)

pub visit-requires : goal.visit-requires
visit-requires c = search (rules, visit_ready)

pub returns-in_err-visit : goal.returns-in_err-visit
returns-in_err-visit c =
    let p = err_from_is_err_and c.from_residual.result c.from_residual.ensures.1 in
    rw (p.1, p.2) (turn_breaks _ _ _ _ _ c.if-known-eq0.false c.in_err-visit.ensures)

pub returns : goal.returns
returns c = search (rules, turn_sees, c.in_ok-visit.ensures)
