-- `streams::read_input` meets its contract: what was read lies in the store, read by read.
use Prim.Native.Nat.{◌≤◌, ◌-◌}
use mathlib.Core.Path.{◌≡◌}
use lib.ListN.{length}
use Rattle.streams.proofs.read_input.Given as goal

abbrev pub invariant-loop-done : goal.invariant-loop-done
invariant-loop-done g l = (l.done ≤ length l.store) × (length l.store ≡ length l.initial.store)

abbrev pub decreases-loop-done : goal.decreases-loop-done
decreases-loop-done g l = length l.store - l.done
