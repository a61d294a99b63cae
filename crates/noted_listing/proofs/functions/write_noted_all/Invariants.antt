-- `write_noted_all`: a function a turn.
use Rattle.noted_listing.proofs.Passing.{Passed}
use Rattle.noted_listing.proofs.functions.write_noted_all.Given as goal

abbrev pub invariant-loop-i : goal.invariant-loop-i
invariant-loop-i l =
    Passed l.c l.stores l.initial.out l.out l.i l.next
