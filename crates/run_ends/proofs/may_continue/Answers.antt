-- `run_ends::may_continue` meets its contract.
use borrow.Author.Rules.{rules}
use mathlib.Core.Path.{refl}
use Rattle.std.proofs.lemmas.Result.{err_from_is_err_and}
use Rattle.run_ends.proofs.Refusing.{is_refused, not_continued, too_many_units, may_continue}
use Rattle.run_ends.proofs.may_continue.Goals as goal

pub returns-in_err-may_abandon : goal.returns-in_err-may_abandon
returns-in_err-may_abandon c =
    let p = err_from_is_err_and c.from_residual.result c.from_residual.ensures.1 in
    rw (p.1, p.2) (not_continued _ _ _ _ _ (c.in_err-may_abandon.ensures) (is_refused _))

pub returns-then-most-units : goal.returns-then-most-units
returns-then-most-units c = too_many_units _ _ _ _ _ (c.in_ok-may_abandon.ensures) refl c.if-most-units.true

pub returns : goal.returns
returns c = may_continue _ _ _ _ _ (c.in_ok-may_abandon.ensures) (search rules) refl c.if-most-units.false
