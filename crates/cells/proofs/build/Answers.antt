-- `cells::build` meets its contract.
use mathlib.Core.Path.{refl}
use borrow.Author.Rules.{rules}
use native.Mathlib.Omega.{arith}
use Rattle.cells.proofs.Builds.{too_deep, cells_full, room_head, room_copy, built_is}
use Rattle.cells.proofs.build.Goals as goal

pub returns-then-d-ge-DEPTH_LIMIT : goal.returns-then-d-ge-DEPTH_LIMIT
returns-then-d-ge-DEPTH_LIMIT c = search (rules, too_deep)

pub returns-then-all-end : goal.returns-then-all-end
returns-then-all-end c =
    let room_is = c.room-all.ensures c.args.cells.now refl in
    search cells_full

pub write_header-requires : goal.write_header-requires
write_header-requires c =
    let room_is = c.room-all.ensures c.args.cells.now refl in (
      search room_head,
      c.requires.0.count,
      c.requires.1,
      let l = c.if-d-ge-DEPTH_LIMIT.false in
          omega arith,
    )

pub copy-requires : goal.copy-requires
copy-requires c = (
  c.requires.0.enough,
  c.requires.0.stack,
  room_copy _ _ _ _ _ _ _ c.requires.0 _ c.deepest_of-d.ensures c.if-d-ge-DEPTH_LIMIT.false _
      (c.room-all.ensures c.args.cells.now refl) c.if-all-end.false _
      c.write_header.ensures,
)

pub returns : goal.returns
returns c =
    let room_is = c.room-all.ensures c.args.cells.now refl in
    search built_is
