use mathlib.Core.Path.{sym}
use lib.Seq.{length-take-le}
use Rattle.console.proofs.Turning.{over_is}
use Rattle.console.proofs.over_frames.Goals as goal

pub slice_bounds-lent_copy-end-2 : goal.slice_bounds-lent_copy-end-2
slice_bounds-lent_copy-end-2 g c =
    sym (length-take-le _ c.args.copy.now
    c.two_each-words.ensures.1)

pub slice_bounds-lent_trace-end-2 : goal.slice_bounds-lent_trace-end-2
slice_bounds-lent_trace-end-2 g c =
    sym (length-take-le _ c.args.trace.now
    c.three_each-entries.ensures.1)

pub returns : goal.returns
returns g c =
    over_is _ _ _ _ c.two_each-words.ensures.0 c.three_each-entries.ensures.0
    c.with_frames-answer.ensures c.say_answer.ensures
