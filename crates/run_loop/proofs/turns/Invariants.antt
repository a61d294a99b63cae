-- `run_loop::turns`: the run goes on, or has ended, as the rules say of where it began.
use Rattle.run_loop.proofs.Turning.{Ways, weight}
use Rattle.run_loop.specs.Links.{is_on}
use Rattle.run_loop.proofs.turns.Given as goal

abbrev pub invariant-loop-k : goal.invariant-loop-k
invariant-loop-k l =
    Ways l.k l.n l.constants l.functions l.text l.main l.other (is_on l.c.turn) l.fn.start l.entered l.initial.stack l.initial.cells l.initial.frames l.c l.stack l.cells l.frames

abbrev pub decreases-loop-k : goal.decreases-loop-k
decreases-loop-k l = weight l.k l.c
