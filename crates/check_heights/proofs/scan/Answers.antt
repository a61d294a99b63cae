-- `scan`: a position a turn.
use Rattle.std.proofs.lemmas.Result.{err_from_is_err_and}
use borrow.Author.Rules.{rules}
use Rattle.check_heights.proofs.Scans.{loop_starts, turn_ready, loop_goes, loop_breaks, loop_ends}
use Rattle.check_heights.proofs.scan.Goals as goal

pub loop-i-init : goal.loop-i-init
loop-i-init c = search (rules, loop_starts)

pub turn-requires : goal.turn-requires
turn-requires c = search (rules, turn_ready)

pub returns-in_err-top : goal.returns-in_err-top
returns-in_err-top c =
    let p = err_from_is_err_and c.from_residual.result c.from_residual.ensures.1 in
    rw (p.1, p.2) (loop_breaks _ _ _ _ c.requires c.loop-i.invariant c.loop-i-test.true c.in_err-top.ensures)

pub loop-i-preserved : goal.loop-i-preserved
loop-i-preserved c = search (rules, loop_goes, c.in_ok-top.ensures)

pub returns : goal.returns
returns c = search (rules, loop_ends)
