-- `machine::new` meets its contract.
use Rattle.std.proofs.lemmas.Result.{err_from_is_err_and}
use Rattle.layout.specs.Links.{names_lent}
use Rattle.machine.proofs.Makings.{no_stores, new_starts, place_there, frame_laid, frame_not}
use Rattle.machine.proofs.new.Goals as goal

pub returns-in_err-made : goal.returns-in_err-made
returns-in_err-made c =
    let p = err_from_is_err_and c.from_residual.result c.from_residual.ensures.1 in
    λ rest. rw (p.1, p.2) (frame_not (new_starts c.args.running (names_lent rest c.args.functions.now c.args.text.now) c.args.frames.now (c.new_program.ensures rest)) c.in_err-made.was)

pub push_frame-requires : goal.push_frame-requires
push_frame-requires c =
    place_there (new_starts c.args.running (names_lent no_stores c.args.functions.now c.args.text.now) c.args.frames.now (c.new_program.ensures no_stores)) c.in_ok-made.was

pub returns : goal.returns
returns c =
    λ rest. frame_laid (new_starts c.args.running (names_lent rest c.args.functions.now c.args.text.now) c.args.frames.now (c.new_program.ensures rest)) c.in_ok-made.was (rw c.first_frame.ensures at c.push_frame.ensures)
