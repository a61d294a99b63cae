-- `scan`: a position a turn.
use Rattle.check_heights.proofs.Scans.{Looping}
use Rattle.check_heights.proofs.scan.Given as goal

abbrev pub invariant-loop-i : goal.invariant-loop-i
invariant-loop-i l = Looping l.main l.count l.code l.initial.table l.i l.top l.table
