-- `seek`: a function a turn.
use borrow.Author.Rules.{rules}
use Rattle.check_image.proofs.Seeking.{seek_starts, entry_inside, flaw_asked, flaw_there, seek_on, not_there}
use Rattle.check_image.proofs.flaws.seek.Goals as goal

pub loop-g-init : goal.loop-g-init
loop-g-init c = seek_starts _ _ _ _

pub offset_bounds-counts-g : goal.offset_bounds-counts-g
offset_bounds-counts-g c =
    let inside =
    entry_inside c.loop-g.invariant c.requires.0 c.loop-g-test.true c.args.counts.now
    c.requires.2 in
    search rules

pub bounds-counts-g : goal.bounds-counts-g
bounds-counts-g c =
    let inside =
    entry_inside c.loop-g.invariant c.requires.0 c.loop-g-test.true c.args.counts.now
    c.requires.2 in
    search rules

pub flaw_of-requires : goal.flaw_of-requires
flaw_of-requires c =
    flaw_asked c.loop-g.invariant c.loop-g-test.true c.code_at-c.ensures c.requires.0 c.requires.1
    c.requires.3

pub returns-then-g-f : goal.returns-then-g-f
returns-then-g-f c =
    flaw_there c.loop-g.invariant c.loop-g-test.true c.code_at-c.ensures c.requires.0 c.requires.1
    c.if-g-f.true c.flaw_of.ensures

pub loop-g-preserved : goal.loop-g-preserved
loop-g-preserved c = seek_on c.loop-g.invariant c.loop-g-test.true c.code_at-c.ensures c.if-g-f.false

pub returns : goal.returns
returns c = search (rules, not_there)
