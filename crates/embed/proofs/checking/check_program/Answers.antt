-- `check_program`: a run that is under way is told, else the check, over what it is lent of the heights and of the functions.
use Rattle.check_words.proofs.Crossing.{rows_fit, rows_taken, check_waits, check_crosses}
use Rattle.laws_embed.proofs.Through.{room_fits, room_taken}
use Rattle.embed.proofs.checking.check_program.Goals as goal

pub returns-then-why-eq25 : goal.returns-then-why-eq25
returns-then-why-eq25 c = check_waits _ _ _ _ _ _ c.out_refusal-why.ensures c.if-why-eq25.true

pub slice_bounds-check-end : goal.slice_bounds-check-end
slice_bounds-check-end c = room_fits c.out_refusal-why.result _ c.lent_room-places.ensures

pub slice_bounds-check-end-2 : goal.slice_bounds-check-end-2
slice_bounds-check-end-2 c = room_taken c.out_refusal-why.result _ c.lent_room-places.ensures

pub slice_bounds-check-end-3 : goal.slice_bounds-check-end-3
slice_bounds-check-end-3 c = rows_fit c.args.frames _ c.lent_functions-rows.ensures

pub slice_bounds-check-end-4 : goal.slice_bounds-check-end-4
slice_bounds-check-end-4 c = rows_taken c.args.frames _ c.lent_functions-rows.ensures

pub returns : goal.returns
returns c =
    check_crosses _ _ _ _ _ _ _ _ _ c.out_refusal-why.ensures c.if-why-eq25.false c.lent_room-places.ensures
    c.lent_functions-rows.ensures c.check-checked.ensures c.tell_checked.ensures
