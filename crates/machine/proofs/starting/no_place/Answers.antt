-- `no_place`: 20, 22, then 21.
use Rattle.std.proofs.lemmas.Result.{err_from_is_err_and}
use Rattle.machine.proofs.Makings.{place_broken, place_over, place_full}
use Rattle.machine.proofs.starting.no_place.Goals as goal

pub returns-in_err-z : goal.returns-in_err-z
returns-in_err-z c =
    let p = err_from_is_err_and c.from_residual.result c.from_residual.ensures.1 in
    λ s. rw (p.1, p.2) (place_broken _ s _ c.judge.ensures _ c.in_err-z.was)

pub returns-then-not-within_limits : goal.returns-then-not-within_limits
returns-then-not-within_limits c = λ s. place_over _ s _ c.judge.ensures _ c.in_ok-z.was c.within_limits.ensures c.if-not-within_limits.true

pub returns : goal.returns
returns c = λ s. place_full _ s _ c.judge.ensures _ c.in_ok-z.was c.within_limits.ensures c.if-not-within_limits.false
