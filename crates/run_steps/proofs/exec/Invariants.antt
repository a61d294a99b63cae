-- `run_steps::exec` meets its contract. The loop's invariant: the run goes on from here as it did from the start. Each step spends a unit.
use mathlib.Core.Path.{◌≡◌}
use Prim.Native.Nat.{◌-◌}
use lib.ListN.{length}
use Rattle.model.specs.Steps.{World}
use Rattle.run_arms.specs.Links.{Around}
use Rattle.run_steps.specs.Links.{Ready}
use Rattle.run_steps.proofs.Following.{Came}
use Rattle.run_steps.proofs.exec.Given as goal

abbrev pub invariant-loop-g : goal.invariant-loop-g
invariant-loop-g l =
    ((length l.stack ≡ length l.initial.stack) × (length l.cells ≡ length l.initial.cells)) ×
    ((w : World) (ar : Around) → Ready w ar l.k l.initial.g l.code l.constants l.functions l.text l.initial.stack l.initial.cells → Came w ar l.k l.code l.constants
    l.functions l.text l.initial.g l.initial.stack l.initial.cells l.g l.stack l.cells)

abbrev pub decreases-loop-g : goal.decreases-loop-g
decreases-loop-g l = l.k.given - l.g.spent
