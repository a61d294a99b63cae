-- `cells::good_cells` meets its contract.
use borrow.Author.Rules.{rules}
use native.Mathlib.Omega.{arith}
use Rattle.cells.proofs.Scans.{not_exact, scan_start, scan_end, scan_bad, block_room, block_ends, scan_less, scan_more}
use Rattle.cells.proofs.good_cells.Goals as goal

pub returns-then-not-exact_cells : goal.returns-then-not-exact_cells
returns-then-not-exact_cells c = search (rules, not_exact)

pub loop-p-init : goal.loop-p-init
loop-p-init c = scan_start _ _ _

pub block_ok-requires : goal.block_ok-requires
block_ok-requires c = (c.requires, c.loop-p-test.true)

pub returns-then-not-block_ok : goal.returns-then-not-block_ok
returns-then-not-block_ok c = search (rules, scan_bad)

pub read_header-h-requires : goal.read_header-h-requires
read_header-h-requires c = search (rules, block_room)

pub overflow_add-p : goal.overflow_add-p
overflow_add-p c = search (block_ends, rules)

pub overflow_add-p-in-loop-p : goal.overflow_add-p-in-loop-p
overflow_add-p-in-loop-p c =
    let ends =
    block_ends _ _ _ _ c.loop-p.invariant c.loop-p-test.true _ c.block_ok.ensures
    (search rules) _ c.read_header-h.ensures in
    omega arith

pub loop-p-smaller : goal.loop-p-smaller
loop-p-smaller c = search (rules, scan_less)

pub loop-p-preserved : goal.loop-p-preserved
loop-p-preserved c = search (rules, scan_more)

pub returns : goal.returns
returns c = search (rules, scan_end)
