-- `image_judge::repeats::look_in` meets its contract.
use Rattle.image_judge.proofs.Repeating.{looking_again, looking_next}
use Rattle.image_judge.proofs.repeats.look_in.Goals as goal

pub returns-then-stands : goal.returns-then-stands
returns-then-stands c =
    looking_again _ _ _ _ _ _ c.requires _ _ c.loop-i.invariant c.loop-i-test.true _
    c.read_text.ensures _ _ c.in-Some.is _ c.spot-place.ensures _ c.stands.ensures
    c.if-stands.true

pub loop-i-preserved : goal.loop-i-preserved
loop-i-preserved c =
    looking_next _ _ _ _ _ _ c.requires _ _ c.loop-i.invariant c.loop-i-test.true _
    c.read_text.ensures _ _ c.in-Some.is _ c.spot-place.ensures _ c.stands.ensures
    c.if-stands.false
