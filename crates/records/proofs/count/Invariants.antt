-- `records::count`: what was judged so far is counted, and the number of it grows.
use Prim.Native.Nat.{◌-◌, ◌^◌}
use Rattle.records.specs.Counting.{Counted}
use Rattle.records.proofs.count.Given as goal

abbrev pub invariant-loop-all : goal.invariant-loop-all
invariant-loop-all g l = goal.F-IsAlwaysCallable g l.next × Counted g.F.FnMut l.fn.next l.all l.next

abbrev pub decreases-loop-all : goal.decreases-loop-all
decreases-loop-all g l = 2 ^ 64 - l.all.cases
