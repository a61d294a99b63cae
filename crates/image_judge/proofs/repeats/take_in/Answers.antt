-- `image_judge::repeats::take_in` meets its contract.
use Rattle.image_judge.proofs.Repeating.{taking_start, taking_ahead, taking_far, taking_again, taking_next}
use Rattle.image_judge.proofs.repeats.take_in.Goals as goal

pub loop-i-init : goal.loop-i-init
loop-i-init c = taking_start _ _ _ c.requires c.args.structs.now _ c.lesser-most.ensures

pub returns-then-stands : goal.returns-then-stands
returns-then-stands c =
    taking_again _ _ _ c.requires c.args.structs.now _ c.lesser-most.ensures _ _ _ c.loop-i.invariant
    c.loop-i-test.true _ c.read_text.ensures _ _ c.in-Some.is _ c.spot-place.ensures
    _ c.stands.ensures c.if-stands.true

pub overflow_sub-start : goal.overflow_sub-start
overflow_sub-start c =
    taking_ahead _ _ _ c.requires c.args.structs.now _ c.lesser-most.ensures _ _ _ c.loop-i.invariant
    c.loop-i-test.true _ c.read_text.ensures _ _ c.in-Some.is

pub returns-then-start-gt-MOST_PLACES : goal.returns-then-start-gt-MOST_PLACES
returns-then-start-gt-MOST_PLACES c =
    taking_far _ _ _ c.requires c.args.structs.now _ c.lesser-most.ensures _ _ _ c.loop-i.invariant
    c.loop-i-test.true _ c.read_text.ensures _ _ c.in-Some.is c.if-start-gt-MOST_PLACES.true

pub loop-i-preserved : goal.loop-i-preserved
loop-i-preserved c =
    taking_next _ _ _ c.requires c.args.structs.now _ c.lesser-most.ensures _ _ _ c.loop-i.invariant
    c.loop-i-test.true _ c.read_text.ensures _ _ c.in-Some.is _ c.spot-place.ensures
    _ c.stands.ensures c.if-stands.false c.if-start-gt-MOST_PLACES.false _ c.pack-word.ensures _
    c.put_struct.ensures
