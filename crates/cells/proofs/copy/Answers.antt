-- `cells::copy` meets its contract.
use borrow.Author.Rules.{rules}
use Rattle.cells.proofs.Builds.{length_elements, copy_start, copy_end, copy_room_lem, copy_more}
use Rattle.cells.proofs.copy.Goals as goal

pub loop-i-init : goal.loop-i-init
loop-i-init c = copy_start _ _ _ _

pub overflow_add-from : goal.overflow_add-from
overflow_add-from c = search (copy_room_lem, length_elements, rules)

pub write_value-requires : goal.write_value-requires
write_value-requires c = search (rules, copy_room_lem, length_elements)

pub loop-i-preserved : goal.loop-i-preserved
loop-i-preserved c = search (rules, copy_more, length_elements)

pub returns : goal.returns
returns c = search (rules, copy_end, length_elements)
