-- `measure`: a function a turn.
use borrow.Author.Rules.{rules}
use Rattle.check_image.proofs.Measures.{none_measured, entry_inside, heights_may_be_asked, one_is_uneven, one_is_even}
use Rattle.check_image.proofs.passes.measure.Goals as goal

pub loop-f-init : goal.loop-f-init
loop-f-init c = none_measured _ _ _ _

pub offset_bounds-counts-f : goal.offset_bounds-counts-f
offset_bounds-counts-f c =
    let inside =
    entry_inside c.loop-f.invariant c.requires.0 c.loop-f-test.true in
    search rules

pub bounds-counts-f : goal.bounds-counts-f
bounds-counts-f c =
    let inside =
    entry_inside c.loop-f.invariant c.requires.0 c.loop-f-test.true in
    search rules

pub heights-requires : goal.heights-requires
heights-requires c =
    heights_may_be_asked c.loop-f.invariant c.loop-f-test.true c.code_at-c.ensures
    c.taken_with-count.ensures c.requires.0 c.requires.1

pub returns-in_default : goal.returns-in_default
returns-in_default c =
    one_is_uneven c.loop-f.invariant c.loop-f-test.true c.code_at-c.ensures c.taken_with-count.ensures
    c.heights.ensures c.requires.0 c.in_default.is

pub offset_bounds-counts-f-in-loop-f : goal.offset_bounds-counts-f-in-loop-f
offset_bounds-counts-f-in-loop-f c =
    let inside =
    entry_inside c.loop-f.invariant c.requires.0 c.loop-f-test.true in
    search rules

pub bounds-counts-f-in-loop-f : goal.bounds-counts-f-in-loop-f
bounds-counts-f-in-loop-f c =
    let inside =
    entry_inside c.loop-f.invariant c.requires.0 c.loop-f-test.true in
    search rules

pub loop-f-preserved : goal.loop-f-preserved
loop-f-preserved c =
    let even =
    one_is_even c.loop-f.invariant c.loop-f-test.true c.code_at-c.ensures c.taken_with-count.ensures
    c.heights.ensures c.in-Some.is in
    even search
