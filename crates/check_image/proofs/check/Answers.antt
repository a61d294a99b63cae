-- `check`: the refusals in their order.
use mathlib.Core.Path.{refl}
use borrow.Author.Rules.{rules}
use Rattle.std.proofs.lemmas.Result.{err_from_is_err_and}
use Rattle.check_image.proofs.Entries.{was_fine, is_no_image, too_few_places, places_within, too_large, ready, too_little_room, a_rule_is_broken, all_is_passed}
use Rattle.check_image.proofs.check.Goals as goal

pub returns-in_err-z : goal.returns-in_err-z
returns-in_err-z c =
    let p = err_from_is_err_and c.from_residual.result c.from_residual.ensures.1 in
    rw (p.1, p.2) (is_no_image _ _ c.judge.ensures _ (λ b d k. search rules) c.map_err.ensures.cases c.in_err-z.was)

pub returns-then-room-z : goal.returns-then-room-z
returns-then-room-z c =
    too_few_places _ _ c.judge.ensures (was_fine _ _ c.map_err.ensures.cases c.in_ok-z.was) (c.room.ensures _ refl) c.if-room-z.true

pub returns-then-not-within_limits : goal.returns-then-not-within_limits
returns-then-not-within_limits c =
    too_large _ _ c.judge.ensures (was_fine _ _ c.map_err.ensures.cases c.in_ok-z.was) (c.room.ensures _ refl) c.if-room-z.false
    c.within_limits.ensures (search rules)

pub returns-then-not-fits : goal.returns-then-not-fits
returns-then-not-fits c =
    too_little_room _ _ c.judge.ensures (was_fine _ _ c.map_err.ensures.cases c.in_ok-z.was) (c.room.ensures _ refl) c.if-room-z.false
    c.within_limits.ensures (search rules) _ c.has_room-fits.ensures (search rules)

pub judge_rules-requires : goal.judge_rules-requires
judge_rules-requires c = (
  ready _ _ c.judge.ensures (was_fine _ _ c.map_err.ensures.cases c.in_ok-z.was) (c.room.ensures _ refl) c.if-room-z.false
      c.within_limits.ensures (search rules),
  places_within _ _ c.judge.ensures (was_fine _ _ c.map_err.ensures.cases c.in_ok-z.was) (c.room.ensures _ refl) c.if-room-z.false,
)

pub returns-in-Err : goal.returns-in-Err
returns-in-Err c =
    a_rule_is_broken _ _ c.judge.ensures (was_fine _ _ c.map_err.ensures.cases c.in_ok-z.was) (c.room.ensures _ refl) c.if-room-z.false
    c.within_limits.ensures (search rules) _ c.has_room-fits.ensures (search rules)
    c.judge_rules.ensures c.in-Err.is

pub returns : goal.returns
returns c =
    all_is_passed _ _ c.judge.ensures (was_fine _ _ c.map_err.ensures.cases c.in_ok-z.was) (c.room.ensures _ refl) c.if-room-z.false
    c.within_limits.ensures (search rules) _ c.has_room-fits.ensures (search rules)
    c.judge_rules.ensures c.in_default.is c.load.ensures _ c.map_err-2.ensures.cases
