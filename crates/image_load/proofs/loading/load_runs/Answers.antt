-- `image_load::loading::load_runs` meets its contract.
use borrow.Author.Rules.{rules}
use Rattle.image_load.proofs.Filling.{runs_begin, runs_same, runs_left, runs_filled, runs_never, runs_most, runs_room, runs_next}
use Rattle.image_load.proofs.loading.load_runs.Goals as goal

pub loop-left-init : goal.loop-left-init
loop-left-init c = runs_begin _ _ _ _ _ c.requires

pub shape_of-places-in_default : goal.shape_of-places-in_default
shape_of-places-in_default c = search (rules, runs_same)

pub returns-in_default : goal.returns-in_default
returns-in_default c = search (rules, runs_never)

pub overflow_sub-to : goal.overflow_sub-to
overflow_sub-to c = search (rules, runs_left)

pub overflow_add-to : goal.overflow_add-to
overflow_add-to c = search (runs_room, rules)

pub put_places-requires : goal.put_places-requires
put_places-requires c = search (rules, runs_room)

pub overflow_sub-left : goal.overflow_sub-left
overflow_sub-left c =
    (runs_most _ _ _ _ _ c.requires _ _ _ _ c.loop-left.invariant c.loop-left-test.true _
    c.read_run.ensures _ c.in-Ok.is).0

pub loop-left-smaller : goal.loop-left-smaller
loop-left-smaller c =
    (runs_most _ _ _ _ _ c.requires _ _ _ _ c.loop-left.invariant c.loop-left-test.true _
    c.read_run.ensures _ c.in-Ok.is).1

pub loop-left-preserved : goal.loop-left-preserved
loop-left-preserved c = search (rules, runs_next)

pub shape_of-places : goal.shape_of-places
shape_of-places c = search (rules, runs_same)

pub returns : goal.returns
returns c = search (rules, runs_filled)
