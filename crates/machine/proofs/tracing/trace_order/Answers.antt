-- `machine::tracing::trace_order` meets its contract: the program is judged, then the frames over its functions.
use Rattle.std.proofs.Common.{refl, ◌∙◌, []}
use Rattle.machine.proofs.Tracings.{functions_counted, frames_judged}
use Rattle.machine.proofs.tracing.trace_order.Goals as goal

pub frames_ok-fine-requires : goal.frames_ok-fine-requires
frames_ok-fine-requires c =
    rw c.counted-count.ensures (functions_counted c.args.m [] [] c.args.functions.now c.args.text.now c.args.main.now c.args.main_places.now c.args.other.now c.args.other_places.now _ (c.trace_program-good.ensures [] []))

pub returns : goal.returns
returns c =
    λ structs constants. c.both-all.ensures ∙ frames_judged c.args.m structs constants c.args.functions.now c.args.text.now c.args.main.now c.args.main_places.now c.args.other.now c.args.other_places.now c.args.stack.now c.args.frames.now _ _ (c.trace_program-good.ensures structs constants)
    (rw (c.counted-count.ensures, c.room-slots.ensures c.args.stack.now refl) at c.frames_ok-fine.ensures)
