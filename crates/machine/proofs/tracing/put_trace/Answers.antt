-- `machine::tracing::put_trace` meets its contract: the innermost frame is read, all frames are judged, and their backtrace is written, or 16 comes back.
use Rattle.machine.proofs.Tracings.{trace_can, trace_wrote, trace_none}
use Rattle.machine.proofs.tracing.put_trace.Goals as goal

pub trace-requires : goal.trace-requires
trace-requires c =
    trace_can c.args.functions.now c.args.main_places.now c.args.other_places.now c.args.n c.args.frames.now c.innermost_at-callers.ensures c.read_frame-inner.ensures c.traceable-fine.ensures c.if-fine.true c.requires

pub returns-then-fine : goal.returns-then-fine
returns-then-fine c =
    trace_wrote c.args.functions.now c.args.main_places.now c.args.other_places.now c.args.n c.args.frames.now c.args.out.now c.innermost_at-callers.ensures c.read_frame-inner.ensures c.traceable-fine.ensures c.if-fine.true c.trace.ensures

pub returns : goal.returns
returns c =
    trace_none c.args.functions.now c.args.main_places.now c.args.other_places.now c.args.n c.args.frames.now c.args.out.now c.innermost_at-callers.ensures c.read_frame-inner.ensures c.traceable-fine.ensures c.if-fine.false
