-- `run_loop::turns` meets its contract: a call writes the frame that it leaves behind the callers, a return reads the innermost one.
use Rattle.std.proofs.Common.{arith, subst, sym, ◌∙◌}
use Rattle.run_steps.specs.declared.Event.TheVariants.{Call, Back}
use Rattle.run_loop.specs.declared.Course.{Course}
use Rattle.run_loop.specs.Links.{is_on}
use Rattle.run_loop.proofs.Turning.{Ways, over_less, stopped_less, paused_less, a_run_goes_on, gone_none, goes, ends_so, asks, roomy, over_on, stopped_on, paused_on, call_on, back_on, within, some_back, call_less, back_less}
use Rattle.run_loop.proofs.turns.Goals as goal

pub loop-k-init : goal.loop-k-init
loop-k-init c =
    subst (λ (r : Course). Ways c.args.k c.args.n c.args.constants.now c.args.functions.now c.args.text.now c.args.main.now c.args.other.now (is_on r.turn) c.args.start c.args.entered c.args.stack.now c.args.cells.now c.args.frames.now r c.args.stack.now c.args.cells.now c.args.frames.now) (sym c.begun-c.ensures)
    (a_run_goes_on c.args.k c.args.n c.args.constants.now c.args.functions.now c.args.text.now c.args.main.now c.args.other.now (λ w at. gone_none c.args.k c.args.n c.args.constants.now c.args.functions.now c.args.text.now c.args.main.now c.args.other.now at))

pub advance-requires : goal.advance-requires
advance-requires c =
    asks c.args.k c.args.n c.args.constants.now c.args.functions.now c.args.text.now c.args.main.now c.args.other.now c.loop-k.c (goes c.args.k c.args.n c.args.constants.now c.args.functions.now c.args.text.now c.args.main.now c.args.other.now c.loop-k.c c.loop-k.invariant (sym c.is_on.ensures ∙ c.loop-k-test.true)) c.requires.1

pub loop-k-smaller-in-Over : goal.loop-k-smaller-in-Over
loop-k-smaller-in-Over c =
    over_less c.args.k c.loop-k.c c.over-next.ensures (sym c.is_on.ensures ∙ c.loop-k-test.true)

pub loop-k-preserved-in-Over : goal.loop-k-preserved-in-Over
loop-k-preserved-in-Over c =
    over_on c.args.k c.args.n c.args.constants.now c.args.functions.now c.args.text.now c.args.main.now c.args.other.now c.loop-k.c (goes c.args.k c.args.n c.args.constants.now c.args.functions.now c.args.text.now c.args.main.now c.args.other.now c.loop-k.c c.loop-k.invariant (sym c.is_on.ensures ∙ c.loop-k-test.true)) (omega arith) c.in-Over.ensures c.over-next.ensures

pub push_frame-requires : goal.push_frame-requires
push_frame-requires c =
    omega (arith, within c.args.k c.args.n c.args.constants.now c.args.functions.now c.args.text.now c.args.main.now c.args.other.now c.loop-k.c (goes c.args.k c.args.n c.args.constants.now c.args.functions.now c.args.text.now c.args.main.now c.args.other.now c.loop-k.c c.loop-k.invariant (sym c.is_on.ensures ∙ c.loop-k-test.true)) c.requires.1 (Call c.in-Call.g c.in-Call.i c.in-Call.b) c.in-Call.ensures, roomy c.args.k c.args.n c.args.constants.now c.args.functions.now c.args.text.now c.args.main.now c.args.other.now c.loop-k.c (goes c.args.k c.args.n c.args.constants.now c.args.functions.now c.args.text.now c.args.main.now c.args.other.now c.loop-k.c c.loop-k.invariant (sym c.is_on.ensures ∙ c.loop-k-test.true)) c.requires.1)

pub called-next-requires : goal.called-next-requires
called-next-requires c =
    omega (arith, within c.args.k c.args.n c.args.constants.now c.args.functions.now c.args.text.now c.args.main.now c.args.other.now c.loop-k.c (goes c.args.k c.args.n c.args.constants.now c.args.functions.now c.args.text.now c.args.main.now c.args.other.now c.loop-k.c c.loop-k.invariant (sym c.is_on.ensures ∙ c.loop-k-test.true)) c.requires.1 (Call c.in-Call.g c.in-Call.i c.in-Call.b) c.in-Call.ensures, roomy c.args.k c.args.n c.args.constants.now c.args.functions.now c.args.text.now c.args.main.now c.args.other.now c.loop-k.c (goes c.args.k c.args.n c.args.constants.now c.args.functions.now c.args.text.now c.args.main.now c.args.other.now c.loop-k.c c.loop-k.invariant (sym c.is_on.ensures ∙ c.loop-k-test.true)) c.requires.1)

pub loop-k-smaller-in-Call : goal.loop-k-smaller-in-Call
loop-k-smaller-in-Call c =
    call_less c.args.k c.args.n c.args.constants.now c.args.functions.now c.args.text.now c.args.main.now c.args.other.now c.loop-k.c (goes c.args.k c.args.n c.args.constants.now c.args.functions.now c.args.text.now c.args.main.now c.args.other.now c.loop-k.c c.loop-k.invariant (sym c.is_on.ensures ∙ c.loop-k-test.true)) c.requires.1 c.in-Call.ensures c.called-next.ensures (sym c.is_on.ensures ∙ c.loop-k-test.true)

pub loop-k-preserved-in-Call : goal.loop-k-preserved-in-Call
loop-k-preserved-in-Call c =
    call_on c.args.k c.args.n c.args.constants.now c.args.functions.now c.args.text.now c.args.main.now c.args.other.now c.loop-k.c (goes c.args.k c.args.n c.args.constants.now c.args.functions.now c.args.text.now c.args.main.now c.args.other.now c.loop-k.c c.loop-k.invariant (sym c.is_on.ensures ∙ c.loop-k-test.true)) (omega arith) c.in-Call.ensures c.frame_of-f.ensures c.push_frame.ensures c.called-next.ensures

pub drop_frame-i-requires : goal.drop_frame-i-requires
drop_frame-i-requires c =
    some_back c.args.k c.args.n c.args.constants.now c.args.functions.now c.args.text.now c.args.main.now c.args.other.now c.loop-k.c (goes c.args.k c.args.n c.args.constants.now c.args.functions.now c.args.text.now c.args.main.now c.args.other.now c.loop-k.c c.loop-k.invariant (sym c.is_on.ensures ∙ c.loop-k-test.true)) c.requires.1 c.in-Back.ensures

pub read_frame-f-requires : goal.read_frame-f-requires
read_frame-f-requires c =
    omega (arith, within c.args.k c.args.n c.args.constants.now c.args.functions.now c.args.text.now c.args.main.now c.args.other.now c.loop-k.c (goes c.args.k c.args.n c.args.constants.now c.args.functions.now c.args.text.now c.args.main.now c.args.other.now c.loop-k.c c.loop-k.invariant (sym c.is_on.ensures ∙ c.loop-k-test.true)) c.requires.1 (Back c.in-Back.g) c.in-Back.ensures, roomy c.args.k c.args.n c.args.constants.now c.args.functions.now c.args.text.now c.args.main.now c.args.other.now c.loop-k.c (goes c.args.k c.args.n c.args.constants.now c.args.functions.now c.args.text.now c.args.main.now c.args.other.now c.loop-k.c c.loop-k.invariant (sym c.is_on.ensures ∙ c.loop-k-test.true)) c.requires.1)

pub loop-k-smaller-in-Back : goal.loop-k-smaller-in-Back
loop-k-smaller-in-Back c =
    back_less c.args.k c.args.n c.args.constants.now c.args.functions.now c.args.text.now c.args.main.now c.args.other.now c.loop-k.c (goes c.args.k c.args.n c.args.constants.now c.args.functions.now c.args.text.now c.args.main.now c.args.other.now c.loop-k.c c.loop-k.invariant (sym c.is_on.ensures ∙ c.loop-k-test.true)) c.requires.1 c.in-Back.ensures c.resumed-next.ensures (sym c.is_on.ensures ∙ c.loop-k-test.true)

pub loop-k-preserved-in-Back : goal.loop-k-preserved-in-Back
loop-k-preserved-in-Back c =
    back_on c.args.k c.args.n c.args.constants.now c.args.functions.now c.args.text.now c.args.main.now c.args.other.now c.loop-k.c (goes c.args.k c.args.n c.args.constants.now c.args.functions.now c.args.text.now c.args.main.now c.args.other.now c.loop-k.c c.loop-k.invariant (sym c.is_on.ensures ∙ c.loop-k-test.true)) (omega arith) c.in-Back.ensures c.drop_frame-i.ensures c.read_frame-f.ensures c.resumed-next.ensures

pub loop-k-smaller-in-Stopped : goal.loop-k-smaller-in-Stopped
loop-k-smaller-in-Stopped c =
    stopped_less c.args.k c.loop-k.c c.in-Stopped.fault c.stopped-next.ensures (sym c.is_on.ensures ∙ c.loop-k-test.true)

pub loop-k-preserved-in-Stopped : goal.loop-k-preserved-in-Stopped
loop-k-preserved-in-Stopped c =
    stopped_on c.args.k c.args.n c.args.constants.now c.args.functions.now c.args.text.now c.args.main.now c.args.other.now c.loop-k.c (goes c.args.k c.args.n c.args.constants.now c.args.functions.now c.args.text.now c.args.main.now c.args.other.now c.loop-k.c c.loop-k.invariant (sym c.is_on.ensures ∙ c.loop-k-test.true)) (omega arith) c.in-Stopped.ensures c.stopped-next.ensures

pub loop-k-smaller : goal.loop-k-smaller
loop-k-smaller c =
    paused_less c.args.k c.loop-k.c c.paused-next.ensures (sym c.is_on.ensures ∙ c.loop-k-test.true)

pub loop-k-preserved : goal.loop-k-preserved
loop-k-preserved c =
    paused_on c.args.k c.args.n c.args.constants.now c.args.functions.now c.args.text.now c.args.main.now c.args.other.now c.loop-k.c (goes c.args.k c.args.n c.args.constants.now c.args.functions.now c.args.text.now c.args.main.now c.args.other.now c.loop-k.c c.loop-k.invariant (sym c.is_on.ensures ∙ c.loop-k-test.true)) (omega arith) c.in-Paused.ensures c.paused-next.ensures

pub returns : goal.returns
returns c =
    ends_so c.args.k c.args.n c.args.constants.now c.args.functions.now c.args.text.now c.args.main.now c.args.other.now c.loop-k.c c.loop-k.invariant (sym c.is_on.ensures ∙ c.loop-k-test.false)
