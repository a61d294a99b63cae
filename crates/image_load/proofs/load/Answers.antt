-- `image_load::load` meets its contract.
use Rattle.std.proofs.lemmas.Result.{err_from_is_err_and}
use Rattle.model.specs.Stores.{stores_of as lent}
use Rattle.image_load.proofs.Loads.{load_broken, load_over, load_full, load_fits, load_done}
use Rattle.std.proofs.Common.{rules}
use Rattle.image_load.proofs.load.Goals as goal

pub returns-in_err-z : goal.returns-in_err-z
returns-in_err-z c =
    let p = err_from_is_err_and c.from_residual.result c.from_residual.ensures.1 in
    rw (p.1, p.2) (load_broken _ _ _ c.judge.ensures _ c.in_err-z.was)

pub returns-then-not-within_limits : goal.returns-then-not-within_limits
returns-then-not-within_limits c = search (rules, load_over, c.in_ok-z.was)

pub returns-then-not-fits : goal.returns-then-not-fits
returns-then-not-fits c =
    load_full c.args.image.now
    (lent c.args.constants.now c.args.structs.now c.args.functions.now
    c.args.text.now c.args.main.now c.args.main_places.now c.args.other.now
    c.args.other_places.now) _ c.judge.ensures _ c.in_ok-z.was _
    c.within_limits.ensures (search rules) _ c.has_room-fits.ensures (search rules)

pub load_all-requires : goal.load_all-requires
load_all-requires c =
    load_fits c.args.image.now
    (lent c.args.constants.now c.args.structs.now c.args.functions.now
    c.args.text.now c.args.main.now c.args.main_places.now c.args.other.now
    c.args.other_places.now) _ c.judge.ensures _ c.in_ok-z.was _
    c.within_limits.ensures (search rules) _ c.has_room-fits.ensures (search rules)

pub returns : goal.returns
returns c =
    load_done c.args.image.now
    (lent c.args.constants.now c.args.structs.now c.args.functions.now
    c.args.text.now c.args.main.now c.args.main_places.now c.args.other.now
    c.args.other_places.now) _ c.judge.ensures _ c.in_ok-z.was _
    c.within_limits.ensures (search rules) _ c.has_room-fits.ensures (search rules) _
    c.load_all.ensures
