-- `machine::running::order` meets its contract: the machine's good order, its frames', and that of the run under way.
use Rattle.std.proofs.Common.{refl, sym, ◌∙◌, []}
use Rattle.machine.proofs.Refusals.{functions_counted, machine_held, frame_there, whole_held, not_held}
use Rattle.machine.proofs.running.order.Goals as goal

pub frames_ok-fine-requires : goal.frames_ok-fine-requires
frames_ok-fine-requires c =
    rw c.counted-count.ensures (functions_counted c.args.m c.args.stores.now.structs.now c.args.stores.now.constants.now c.args.stores.now.functions.now c.args.stores.now.text.now c.args.stores.now.main.now c.args.stores.now.main_places.now c.args.stores.now.other.now c.args.stores.now.other_places.now c.args.stack.now c.args.cells.now c.args.frames.now c.args.copy.now [] _ c.judge-good.ensures)

pub current-f-requires : goal.current-f-requires
current-f-requires c =
    frame_there c.args.m c.args.stores.now.structs.now c.args.stores.now.constants.now c.args.stores.now.functions.now c.args.stores.now.text.now c.args.stores.now.main.now c.args.stores.now.main_places.now c.args.stores.now.other.now c.args.stores.now.other_places.now c.args.stack.now c.args.cells.now c.args.frames.now c.args.copy.now [] (sym (c.both-held.ensures ∙ machine_held c.args.m c.args.stores.now.structs.now c.args.stores.now.constants.now c.args.stores.now.functions.now c.args.stores.now.text.now c.args.stores.now.main.now c.args.stores.now.main_places.now c.args.stores.now.other.now c.args.stores.now.other_places.now c.args.stack.now c.args.cells.now c.args.frames.now c.args.copy.now [] _ _ c.judge-good.ensures (rw (c.counted-count.ensures, c.room-slots.ensures c.args.stack.now refl) at c.frames_ok-fine.ensures)) ∙ c.if-held.true)

pub returns-then-held : goal.returns-then-held
returns-then-held c =
    λ backtrace. whole_held c.args.m c.args.stores.now.structs.now c.args.stores.now.constants.now c.args.stores.now.functions.now c.args.stores.now.text.now c.args.stores.now.main.now c.args.stores.now.main_places.now c.args.stores.now.other.now c.args.stores.now.other_places.now c.args.stack.now c.args.cells.now c.args.frames.now c.args.copy.now backtrace (sym (c.both-held.ensures ∙ machine_held c.args.m c.args.stores.now.structs.now c.args.stores.now.constants.now c.args.stores.now.functions.now c.args.stores.now.text.now c.args.stores.now.main.now c.args.stores.now.main_places.now c.args.stores.now.other.now c.args.stores.now.other_places.now c.args.stack.now c.args.cells.now c.args.frames.now c.args.copy.now backtrace _ _ c.judge-good.ensures (rw (c.counted-count.ensures, c.room-slots.ensures c.args.stack.now refl) at c.frames_ok-fine.ensures)) ∙ c.if-held.true)
    (rw (c.current-f.ensures, c.room-slots.ensures c.args.stack.now refl) at c.part_ok.ensures)

pub returns : goal.returns
returns c =
    λ backtrace. not_held c.args.m c.args.stores.now.structs.now c.args.stores.now.constants.now c.args.stores.now.functions.now c.args.stores.now.text.now c.args.stores.now.main.now c.args.stores.now.main_places.now c.args.stores.now.other.now c.args.stores.now.other_places.now c.args.stack.now c.args.cells.now c.args.frames.now c.args.copy.now backtrace (c.both-held.ensures ∙ machine_held c.args.m c.args.stores.now.structs.now c.args.stores.now.constants.now c.args.stores.now.functions.now c.args.stores.now.text.now c.args.stores.now.main.now c.args.stores.now.main_places.now c.args.stores.now.other.now c.args.stores.now.other_places.now c.args.stack.now c.args.cells.now c.args.frames.now c.args.copy.now backtrace _ _ c.judge-good.ensures (rw (c.counted-count.ensures, c.room-slots.ensures c.args.stack.now refl) at c.frames_ok-fine.ensures)) c.if-held.false
