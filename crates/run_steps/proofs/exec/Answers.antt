-- `run_steps::exec` meets its contract. The loop's invariant: the run goes on from here as it did from the start. Each step spends a unit.
use mathlib.Core.Path.{refl, ◌∙◌}
use Prim.Native.Nat.{◌-◌}
use Rattle.run_steps.proofs.Following.{came_none, came_on, ends_on, ends_over, told, went_on, went_less, returned_on, returned_less, returned_few, calls_out, stops, pauses, back_out}
use Rattle.run_steps.proofs.exec.Goals as goal

pub loop-g-init : goal.loop-g-init
loop-g-init c = ((refl, refl), λ w ar at. came_none at)

pub step-requires : goal.step-requires
step-requires c =
    let z = c.loop-g.invariant.1 _ _ c.requires.2 in
    ((c.requires.0, c.requires.1, z.ready), c.loop-g-test.true)

pub loop-g-smaller-in-Went : goal.loop-g-smaller-in-Went
loop-g-smaller-in-Went c =
    let z = c.loop-g.invariant.1 _ _ c.requires.2 in
    went_less z.ready c.loop-g-test.true (told c.in-Went.is (c.step.ensures _ _ z.ready))

pub loop-g-preserved-in-Went : goal.loop-g-preserved-in-Went
loop-g-preserved-in-Went c = (
  (c.stack-1.given ∙ c.loop-g.invariant.0.0, c.cells-1.given ∙ c.loop-g.invariant.0.1),
  λ w ar at. let z = c.loop-g.invariant.1 w ar at in
      came_on z
      (went_on z.ready c.loop-g-test.true (told c.in-Went.is (c.step.ensures w ar z.ready))
      c.cells-1.given),
)

pub counted-g-requires : goal.counted-g-requires
counted-g-requires c =
    let z = c.loop-g.invariant.1 _ _ c.requires.2 in
    returned_few z.ready c.loop-g-test.true (told c.in-Returned.is (c.step.ensures _ _ z.ready))

pub loop-g-smaller : goal.loop-g-smaller
loop-g-smaller c =
    let z = c.loop-g.invariant.1 _ _ c.requires.2 in
    returned_less z.ready c.loop-g-test.true
    (told c.in-Returned.is (c.step.ensures _ _ z.ready)) c.counted-g.ensures

pub loop-g-preserved : goal.loop-g-preserved
loop-g-preserved c = (
  (c.stack-1.given ∙ c.loop-g.invariant.0.0, c.cells-1.given ∙ c.loop-g.invariant.0.1),
  λ w ar at. let z = c.loop-g.invariant.1 w ar at in
      came_on z
      (returned_on z.ready c.loop-g-test.true
      (told c.in-Returned.is (c.step.ensures w ar z.ready)) c.counted-g.ensures
      c.cells-1.given),
)

pub returns-in-Call : goal.returns-in-Call
returns-in-Call c =
    λ w ar at. let z = c.loop-g.invariant.1 w ar at in
    ends_on z
    (calls_out z.ready c.loop-g-test.true (told c.in-Call.is (c.step.ensures w ar z.ready)))

pub returns-in-Back : goal.returns-in-Back
returns-in-Back c =
    λ w ar at. let z = c.loop-g.invariant.1 w ar at in
    ends_on z
    (back_out ar.entered ar.callers z.ready c.loop-g-test.true (told c.in-Back.is (c.step.ensures w ar z.ready)))

pub returns-in-Stopped : goal.returns-in-Stopped
returns-in-Stopped c =
    λ w ar at. let z = c.loop-g.invariant.1 w ar at in
    ends_on z (stops z.ready c.loop-g-test.true (told c.in-Stopped.is (c.step.ensures w ar z.ready)))

pub returns-in-Short : goal.returns-in-Short
returns-in-Short c =
    λ w ar at. let z = c.loop-g.invariant.1 w ar at in
    ends_on z (pauses z.ready c.loop-g-test.true (told c.in-Short.is (c.step.ensures w ar z.ready)))

pub returns : goal.returns
returns c = λ w ar at. let z = c.loop-g.invariant.1 w ar at in ends_on z (ends_over z.ready c.loop-g-test.false)
