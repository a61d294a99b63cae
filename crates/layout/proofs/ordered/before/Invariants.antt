-- `layout::ordered::before`: the bytes so far are the same.
use Rattle.laws_names.proofs.Before.{Comparing}
use Rattle.layout.proofs.ordered.before.Given as goal

abbrev pub invariant-loop-i : goal.invariant-loop-i
invariant-loop-i l = Comparing l.a l.b l.i
