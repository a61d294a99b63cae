-- `cells::deepest_of` meets its contract.
use borrow.Author.Rules.{rules}
use Rattle.cells.proofs.Builds.{length_elements, depth_start, depth_end, depth_more, held_at}
use Rattle.cells.proofs.deepest_of.Goals as goal

pub loop-i-init : goal.loop-i-init
loop-i-init c = depth_start _ _ _

pub depth-requires : goal.depth-requires
depth-requires c = search (rules, held_at)

pub loop-i-preserved : goal.loop-i-preserved
loop-i-preserved c = search (rules, depth_more, length_elements)

pub returns : goal.returns
returns c = search (rules, depth_end, length_elements)
