-- `machine::load` meets its contract.
use Rattle.std.proofs.lemmas.Result.{err_from_is_err_and}
use Rattle.model.specs.Stores.{stores_of as lent}
use Rattle.machine.proofs.Makings.{load_starts, place_there, frame_laid, frame_not}
use Rattle.machine.proofs.load.Goals as goal

pub returns-in_err-made : goal.returns-in_err-made
returns-in_err-made c =
    let p = err_from_is_err_and c.from_residual.result c.from_residual.ensures.1 in
    rw (p.1, p.2) (frame_not (load_starts c.args.running c.args.image.now (lent c.args.constants.now c.args.structs.now c.args.functions.now c.args.text.now c.args.main.now c.args.main_places.now c.args.other.now c.args.other_places.now) c.args.frames.now c.load_program.ensures) c.in_err-made.was)

pub push_frame-requires : goal.push_frame-requires
push_frame-requires c = place_there (load_starts c.args.running c.args.image.now (lent c.args.constants.now c.args.structs.now c.args.functions.now c.args.text.now c.args.main.now c.args.main_places.now c.args.other.now c.args.other_places.now) c.args.frames.now c.load_program.ensures) c.in_ok-made.was

pub returns : goal.returns
returns c = frame_laid (load_starts c.args.running c.args.image.now (lent c.args.constants.now c.args.structs.now c.args.functions.now c.args.text.now c.args.main.now c.args.main_places.now c.args.other.now c.args.other_places.now) c.args.frames.now c.load_program.ensures) c.in_ok-made.was (rw c.first_frame.ensures at c.push_frame.ensures)
