-- `list_with_notes`: each way out.
use mathlib.Core.Path.{refl}
use borrow.Author.Tests.{not-true}
use Rattle.std.proofs.lemmas.Result.{err_from_is_err_and}
use Rattle.noted_listing.proofs.Entry.{out_of_order, few, refused, no_room, room_for}
use borrow.Author.Rules.{rules}
use Rattle.noted_listing.proofs.list_with_notes.Goals as goal

pub returns-then-not-ok : goal.returns-then-not-ok
returns-then-not-ok c = search (rules, out_of_order, not-true)

pub write_noted_all-requires : goal.write_noted_all-requires
write_noted_all-requires c = few _ _ c.stores_ok-ok.ensures (search rules)

pub returns-in_err-n : goal.returns-in_err-n
returns-in_err-n c =
    let p = err_from_is_err_and c.from_residual.result c.from_residual.ensures.1 in
    rw (p.1, p.2) (refused _ _ c.stores_ok-ok.ensures _ (search rules) (search rules) c.in_err-n.ensures)

pub returns-then-room-n : goal.returns-then-room-n
returns-then-room-n c =
    no_room _ _ c.stores_ok-ok.ensures _ (search rules) (search rules)
    c.in_ok-n.ensures _ (c.room.ensures _ refl) c.if-room-n.true

pub write_noted_all-requires-2 : goal.write_noted_all-requires-2
write_noted_all-requires-2 c = few _ _ c.stores_ok-ok.ensures (search rules)

pub returns : goal.returns
returns c =
    room_for _ _ c.stores_ok-ok.ensures _ (search rules) (search rules)
    c.in_ok-n.ensures _ (c.room.ensures _ refl) c.if-room-n.false
    c.write_noted_all-2.ensures
