-- `enter`: on to the next instruction, and to where it jumps.
use Rattle.check_heights.proofs.Visits.{jump_fits, enters, clashes}
use Rattle.std.proofs.lemmas.Result.{err_from_is_err_and}
use borrow.Author.Rules.{rules}
use Rattle.check_heights.proofs.enter.Goals as goal

pub returns-in_err-send : goal.returns-in_err-send
returns-in_err-send c =
    let p = err_from_is_err_and c.from_residual.result c.from_residual.ensures.1 in
    rw (p.1, p.2) (clashes _ _ _ _ _ c.leads_on-on.ensures c.next_at-next.ensures.0 c.in_err-send.ensures)

pub send-requires-2 : goal.send-requires-2
send-requires-2 c = search (rules, jump_fits, c.in_ok-send.ensures)

pub returns : goal.returns
returns c = search (rules, enters, c.in_ok-send.ensures)
