-- `layout::writes::put_bytes`: the bytes so far stand in the store.
use Rattle.layout.proofs.Writing.{Writing}
use Rattle.layout.proofs.writes.put_bytes.Given as goal

abbrev pub invariant-loop-i : goal.invariant-loop-i
invariant-loop-i l = Writing l.initial.s l.at l.bytes l.s l.i
