-- `image_save::saving::put_part` meets its contract.
use borrow.Author.Rules.{rules}
use Rattle.image_save.proofs.Putting.{near_fits, cut_length, cut_fits, part_cut, part_past}
use Rattle.image_save.proofs.saving.put_part.Goals as goal

pub overflow_add-next : goal.overflow_add-next
overflow_add-next c = search (near_fits, rules)

pub slice_bounds-put_bytes-end : goal.slice_bounds-put_bytes-end
slice_bounds-put_bytes-end c = search (rules, cut_length)

pub put_bytes-requires-then-at-out : goal.put_bytes-requires-then-at-out
put_bytes-requires-then-at-out c = search (rules, cut_fits)

pub returns-then-at-out : goal.returns-then-at-out
returns-then-at-out c = search (rules, part_cut)

pub returns : goal.returns
returns c = search (rules, part_past)
