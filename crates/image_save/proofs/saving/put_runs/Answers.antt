-- `image_save::saving::put_runs` meets its contract.
use Rattle.image_save.proofs.Imaging.{runs_start, runs_kept, runs_end, runs_ask, runs_small, runs_less, run_near, place_near, runs_next}
use borrow.Author.Rules.{rules}
use Rattle.image_save.proofs.saving.put_runs.Goals as goal

pub loop-i-init : goal.loop-i-init
loop-i-init c = runs_start _ _ _ _ c.requires _

pub run_length-n-requires : goal.run_length-n-requires
run_length-n-requires c = search (rules, runs_ask)

pub overflow_cast-bytes : goal.overflow_cast-bytes
overflow_cast-bytes c = search (runs_small, rules)

pub put_number-mid-requires : goal.put_number-mid-requires
put_number-mid-requires c = search (rules, run_near)

pub put_number-next-requires : goal.put_number-next-requires
put_number-next-requires c = search (rules, place_near)

pub overflow_add-i : goal.overflow_add-i
overflow_add-i c = search (runs_less, rules)

pub loop-i-smaller : goal.loop-i-smaller
loop-i-smaller c = search (runs_less, rules)

pub loop-i-preserved : goal.loop-i-preserved
loop-i-preserved c =
    runs_next _ _ _ _ c.requires _ _ _ _ c.loop-i.invariant c.loop-i-test.true _
    c.run_length-n.ensures _ _ c.put_number-mid.ensures _ _ c.put_number-next.ensures

pub shape_of-out : goal.shape_of-out
shape_of-out c = search (rules, runs_kept)

pub returns : goal.returns
returns c = search (rules, runs_end)
