-- `frames::order::frames_ok` meets its contract.
use Rattle.std.proofs.Common.{arith, sym, ◌∙◌, ◌≡◌, ◌≤◌, ◌-◌, length, refl}
use native.Mathlib.Numerals.{add-one}
use Rattle.std.specs.Prelude.{min}
use Rattle.std.proofs.lemmas.Grind.{common_steps}
use Rattle.model.specs.Values.{most_places}
use borrow.Author.Tests.{le-leb}
use Rattle.frames.specs.Links.{frames_good, caller_entered}
use Rattle.frames.proofs.Orders.{stops_here, goes_on, none_ahead}
use Rattle.frames.proofs.order.frames_ok.Goals as goal

pub returns-then-n-lt1 : goal.returns-then-n-lt1
unfolding frames_good
returns-then-n-lt1 c = grind (arith, common_steps)

pub loop-i-init : goal.loop-i-init
unfolding frames_good caller_entered
loop-i-init c =
    let some : 1 ≤ c.args.n = omega arith in let room : c.args.n ≤ min (length c.args.frames.now) most_places = omega arith in let all : c.args.n - 0 ≡ c.args.n = omega arith in
    record { before = refl; ahead = rw (le-leb 1 c.args.n some, le-leb c.args.n (min (length c.args.frames.now) most_places) room, all) refl }

pub returns-then-not-place_ok : goal.returns-then-not-place_ok
returns-then-not-place_ok c =
    stops_here _ _ _ c.loop-i.invariant.ahead c.loop-i-test.true (rw c.loop-i.invariant.before at (sym c.place_ok.ensures ∙ c.if-not-place_ok.true))

pub loop-i-preserved : goal.loop-i-preserved
unfolding caller_entered
loop-i-preserved c = record {
  before = rw (add-one c.loop-i.i) refl;
  ahead = goes_on _ _ _ c.loop-i.invariant.ahead c.loop-i-test.true (rw c.loop-i.invariant.before at (sym c.place_ok.ensures ∙ c.if-not-place_ok.false));
}

pub returns : goal.returns
returns c = none_ahead _ _ _ c.loop-i.invariant.ahead c.loop-i-test.false
