-- `pass`: the scan of a prepared table, and its end.
use Rattle.check_heights.proofs.Scans.{scan_ready}
use Rattle.check_heights.proofs.Answers.{scan_ends, scan_breaks}
use Rattle.std.proofs.lemmas.Result.{err_from_is_err_and}
use borrow.Author.Rules.{rules}
use Rattle.check_heights.proofs.pass.Goals as goal

pub scan-requires : goal.scan-requires
scan-requires c = search (rules, scan_ready)

pub returns-in_err-top : goal.returns-in_err-top
returns-in_err-top c =
    let p = err_from_is_err_and c.from_residual.result c.from_residual.ensures.1 in
    rw (p.1, p.2) (scan_breaks _ _ _ _ c.requires c.in_err-top.ensures)

pub returns : goal.returns
returns c = search (rules, scan_ends, c.in_ok-top.ensures)
