-- `write_noted_all`: a function a turn.
use Rattle.std.proofs.lemmas.Result.{err_from_is_err_and}
use Rattle.noted_listing.proofs.Passing.{none_yet, all_passed, one_stops, one_more}
use borrow.Author.Rules.{rules}
use Rattle.noted_listing.proofs.functions.write_noted_all.Goals as goal

pub loop-i-init : goal.loop-i-init
loop-i-init c = none_yet _ _ _

pub returns-in_err-next : goal.returns-in_err-next
returns-in_err-next c =
    let p = err_from_is_err_and c.from_residual.result c.from_residual.ensures.1 in
    rw (p.1, p.2) (one_stops _ _ c.loop-i.invariant c.loop-i-test.true c.in_err-next.ensures)

pub loop-i-preserved : goal.loop-i-preserved
loop-i-preserved c = one_more _ _ c.loop-i.invariant c.loop-i-test.true c.in_ok-next.ensures

pub returns : goal.returns
returns c = search (rules, all_passed)
