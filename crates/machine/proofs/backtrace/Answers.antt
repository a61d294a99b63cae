-- `machine::backtrace` meets its contract: it is judged (19, 17), then the backtrace is written, or 16 comes back.
use Rattle.std.proofs.Common.{refl, ap, ◌∙◌, Bool, []}
use Rattle.std.proofs.lemmas.Result.{err_from_is_err_and}
use Rattle.machine.specs.Links.{trace_refusal}
use Rattle.machine.proofs.Tracings.{trace_ready, trace_is, trace_refused}
use Rattle.machine.proofs.backtrace.Goals as goal

pub returns-in_err-may_trace : goal.returns-in_err-may_trace
returns-in_err-may_trace c =
    let p = err_from_is_err_and c.from_residual.result c.from_residual.ensures.1 in
    λ structs constants. rw (p.1, p.2)
    (trace_refused c.args.m structs constants c.args.functions.now c.args.text.now c.args.main.now c.args.main_places.now c.args.other.now c.args.other_places.now c.args.stack.now c.args.frames.now c.args.out.now
    (c.may_trace.ensures c.args.out.now refl ∙ ap (λ (x : Bool). trace_refusal x c.args.m.frames c.args.out.now) (c.trace_order-good.ensures structs constants)) c.in_err-may_trace.was)

pub put_trace-requires : goal.put_trace-requires
put_trace-requires c =
    trace_ready c.args.m [] [] c.args.functions.now c.args.text.now c.args.main.now c.args.main_places.now c.args.other.now c.args.other_places.now c.args.stack.now c.args.frames.now c.args.out.now
    (c.may_trace.ensures c.args.out.now refl ∙ ap (λ (x : Bool). trace_refusal x c.args.m.frames c.args.out.now) (c.trace_order-good.ensures [] [])) c.in_ok-may_trace.was

pub returns : goal.returns
returns c =
    λ structs constants. c.put_trace.ensures ∙ trace_is c.args.m structs constants c.args.functions.now c.args.text.now c.args.main.now c.args.main_places.now c.args.other.now c.args.other_places.now c.args.stack.now c.args.frames.now c.args.out.now
    (c.may_trace.ensures c.args.out.now refl ∙ ap (λ (x : Bool). trace_refusal x c.args.m.frames c.args.out.now) (c.trace_order-good.ensures structs constants)) c.in_ok-may_trace.was
