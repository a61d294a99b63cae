-- `cells::block_ok` meets its contract.
use borrow.Author.Rules.{rules}
use native.Mathlib.Omega.{arith}
use Rattle.cells.proofs.Scans.{whole_room, walk_start, not_whole, element_room, bad_head, bad_place, held, walk_more, bad_64, bad_shallow, last_is}
use Rattle.cells.proofs.block_ok.Goals as goal

pub returns-then-not-whole : goal.returns-then-not-whole
returns-then-not-whole c = search (rules, not_whole)

pub read_header-h-requires : goal.read_header-h-requires
read_header-h-requires c = search (rules, whole_room)

pub loop-i-init : goal.loop-i-init
loop-i-init c = walk_start _ _ _ _

pub overflow_add-at : goal.overflow_add-at
overflow_add-at c = search (element_room, rules)

pub overflow_add-at-in-loop-i : goal.overflow_add-at-in-loop-i
overflow_add-at-in-loop-i c = search (element_room, rules)

pub is_header-requires : goal.is_header-requires
is_header-requires c = search (rules, element_room)

pub returns-then-is_header : goal.returns-then-is_header
returns-then-is_header c = search (rules, bad_head)

pub read_value-v-requires : goal.read_value-v-requires
read_value-v-requires c = search (rules, element_room)

pub returns-then-not-placed : goal.returns-then-not-placed
returns-then-not-placed c = search (rules, bad_place)

pub depth-requires : goal.depth-requires
depth-requires c = (omega arith, search (rules, held))

pub loop-i-preserved : goal.loop-i-preserved
loop-i-preserved c =
    walk_more _ _ _ _ _ c.whole.ensures (search rules) _ c.read_header-h.ensures _ _ c.loop-i.invariant c.loop-i-test.true _
    c.is_header.ensures c.if-is_header.false _ c.read_value-v.ensures _ c.placed.ensures (search rules) _ c.depth.ensures _ (search rules)

pub returns-then-told-gt-DEPTH_LIMIT : goal.returns-then-told-gt-DEPTH_LIMIT
returns-then-told-gt-DEPTH_LIMIT c = search (rules, bad_64)

pub returns-then-told-d : goal.returns-then-told-d
returns-then-told-d c = search (rules, bad_shallow)

pub returns : goal.returns
returns c = search (rules, last_is)
