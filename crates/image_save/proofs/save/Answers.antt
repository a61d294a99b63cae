-- `image_save::save` meets its contract.
use borrow.Author.Rules.{rules}
use mathlib.Core.Path.{refl}
use Rattle.layout.specs.Lent.{stores_in}
use Rattle.image_save.proofs.Orderly.{save_unordered, in_order, save_short, save_done}
use Rattle.image_save.proofs.save.Goals as goal

pub returns-then-not-ok : goal.returns-then-not-ok
returns-then-not-ok c =
    save_unordered _ (stores_in c.args.stores.now) c.args.out.now _ c.stores_ok-ok.ensures (search rules)

pub put_image-n-requires : goal.put_image-n-requires
put_image-n-requires c =
    in_order _ (stores_in c.args.stores.now) c.args.out.now _ c.stores_ok-ok.ensures (search rules)

pub returns-then-room-n : goal.returns-then-room-n
returns-then-room-n c =
    save_short _ (stores_in c.args.stores.now) c.args.out.now _ c.stores_ok-ok.ensures (search rules) _ _ refl _
    c.put_image-n.ensures _ (c.room.ensures _ refl) c.if-room-n.true

pub put_image-requires : goal.put_image-requires
put_image-requires c =
    in_order _ (stores_in c.args.stores.now) c.args.out.now _ c.stores_ok-ok.ensures (search rules)

pub returns : goal.returns
returns c =
    save_done _ (stores_in c.args.stores.now) c.args.out.now _ c.stores_ok-ok.ensures (search rules) _ _ refl _
    c.put_image-n.ensures _ (c.room.ensures _ refl) c.if-room-n.false _ _
    c.put_image.ensures
