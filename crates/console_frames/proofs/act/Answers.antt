-- `console_frames::act` meets its contract: by the call.
use Rattle.model.specs.Stores.{stores_of}
use Rattle.layout.specs.Lent.{program_lent}
use Rattle.layout.specs.Links.{names_lent}
use Rattle.console_frames.proofs.Answers.{new_called, load_called, begin_called, continue_called, abandon_called, trace_called, strict_called}
use Rattle.console_frames.proofs.act.Goals as goal

pub returns-in-New : goal.returns-in-New
unfolding names_lent
returns-in-New c =
    rw (c.in-New.is, ← c.lay.ensures) (new_called c.args.m c.args.image.now (stores_of c.args.constants.now c.args.structs.now c.args.functions.now c.args.text.now c.args.main.now c.args.main_places.now c.args.other.now c.args.other_places.now) c.args.stack.now c.args.cells.now c.args.copy.now c.args.trace.now c.args.words.now c.lay.new.frames c.new-s.new.functions c.new-s.new.text c.new-s.ensures c.keep.ensures)

pub returns-in-Load : goal.returns-in-Load
unfolding names_lent
returns-in-Load c =
    rw (c.in-Load.is, ← c.lay.ensures) (load_called c.args.m c.args.image.now (stores_of c.args.constants.now c.args.structs.now c.args.functions.now c.args.text.now c.args.main.now c.args.main_places.now c.args.other.now c.args.other_places.now) c.args.stack.now c.args.cells.now c.args.copy.now c.args.trace.now c.args.words.now c.lay.new.frames c.load-s.ensures c.keep-in-Load.ensures)

pub returns-in-Begin : goal.returns-in-Begin
unfolding program_lent
returns-in-Begin c =
    rw (c.in-Begin.is, ← c.lay.ensures) (begin_called c.args.m c.args.image.now (stores_of c.args.constants.now c.args.structs.now c.args.functions.now c.args.text.now c.args.main.now c.args.main_places.now c.args.other.now c.args.other_places.now) c.args.stack.now c.args.cells.now c.args.copy.now c.args.trace.now c.args.words.now c.lay.new.frames c.begin-x.new.frames c.begin-x.new.copy c.begin-x.ensures c.keep-in-Begin.ensures)

pub returns-in-Continue : goal.returns-in-Continue
unfolding program_lent
returns-in-Continue c =
    rw (c.in-Continue.is, ← c.lay.ensures) (continue_called c.args.m c.args.image.now (stores_of c.args.constants.now c.args.structs.now c.args.functions.now c.args.text.now c.args.main.now c.args.main_places.now c.args.other.now c.args.other_places.now) c.args.stack.now c.args.cells.now c.args.copy.now c.args.trace.now c.args.words.now c.lay.new.frames c.in-Continue.units c.continue_run-x.new.stack c.continue_run-x.new.cells c.continue_run-x.new.frames c.continue_run-x.new.backtrace c.continue_run-x.ensures c.keep-in-Continue.ensures)

pub returns-in-Abandon : goal.returns-in-Abandon
unfolding program_lent
returns-in-Abandon c =
    rw (c.in-Abandon.is, ← c.lay.ensures) (abandon_called c.args.m c.args.image.now (stores_of c.args.constants.now c.args.structs.now c.args.functions.now c.args.text.now c.args.main.now c.args.main_places.now c.args.other.now c.args.other_places.now) c.args.stack.now c.args.cells.now c.args.copy.now c.args.trace.now c.args.words.now c.lay.new.frames c.abandon-x.new.stack c.abandon-x.new.frames c.abandon-x.new.backtrace c.abandon-x.ensures c.keep-in-Abandon.ensures)

pub returns-in-Trace : goal.returns-in-Trace
unfolding names_lent
returns-in-Trace c =
    rw (c.in-Trace.is, ← c.lay.ensures) (trace_called c.args.m c.args.image.now (stores_of c.args.constants.now c.args.structs.now c.args.functions.now c.args.text.now c.args.main.now c.args.main_places.now c.args.other.now c.args.other_places.now) c.args.stack.now c.args.cells.now c.args.copy.now c.args.trace.now c.args.words.now c.lay.new.frames c.backtrace.ensures)

pub returns-in-Strict : goal.returns-in-Strict
unfolding program_lent
returns-in-Strict c =
    rw (c.in-Strict.is, ← c.lay.ensures) (strict_called c.args.m c.args.image.now (stores_of c.args.constants.now c.args.structs.now c.args.functions.now c.args.text.now c.args.main.now c.args.main_places.now c.args.other.now c.args.other_places.now) c.args.stack.now c.args.cells.now c.args.copy.now c.args.trace.now c.args.words.now c.lay.new.frames c.in-Strict.strict c.set_strict.ensures)
