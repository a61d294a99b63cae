-- `write_all`: a function a turn.
use Rattle.listing.proofs.Functions.{Passed}
use Rattle.listing.proofs.write_all.Given as goal

abbrev pub invariant-loop-i : goal.invariant-loop-i
invariant-loop-i l = Passed l.functions l.text l.main l.other l.i-end l.initial.out l.out l.i l.next
