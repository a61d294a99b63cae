-- `load_program`: loaded where no run is under way and there is a place for a frame.
use Rattle.std.proofs.lemmas.Result.{err_from_is_err_and}
use Rattle.machine.proofs.Makings.{not_loaded_over, without_place, made_loaded, not_loaded}
use Rattle.model.specs.Stores.{stores_of as lent}
use borrow.Author.Rules.{rules}
use Rattle.machine.proofs.starting.load_program.Goals as goal

pub returns-then-running : goal.returns-then-running
returns-then-running c = search (rules, not_loaded_over)

pub returns-then-frames-eq0 : goal.returns-then-frames-eq0
returns-then-frames-eq0 c =
    without_place _ _ c.if-running.false c.if-frames-eq0.true
    (c.no_place.ensures
    (lent c.args.constants.now c.args.structs.now c.args.functions.now
    c.args.text.now c.args.main.now c.args.main_places.now c.args.other.now
    c.args.other_places.now))

pub returns-in_err-counts : goal.returns-in_err-counts
returns-in_err-counts c =
    let p = err_from_is_err_and c.from_residual.result c.from_residual.ensures.1 in
    rw (p.1, p.2) (not_loaded c.args.image.now
    (lent c.args.constants.now c.args.structs.now c.args.functions.now
    c.args.text.now c.args.main.now c.args.main_places.now c.args.other.now
    c.args.other_places.now)
    c.if-running.false c.load.ensures _ c.in_err-counts.was)

pub returns : goal.returns
returns c =
    made_loaded c.args.image.now
    (lent c.args.constants.now c.args.structs.now c.args.functions.now
    c.args.text.now c.args.main.now c.args.main_places.now c.args.other.now
    c.args.other_places.now)
    c.if-running.false c.load.ensures _ c.in_ok-counts.was c.if-frames-eq0.false c.fresh_vm.ensures
