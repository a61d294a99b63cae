-- `put_shown`: a byte a turn, and two dots where there are more.
use Rattle.printing.proofs.Puts.{Along}
use Rattle.notes.proofs.Shown.{front}
use Rattle.notes.proofs.put_shown.Given as goal

abbrev pub invariant-loop-b : goal.invariant-loop-b
invariant-loop-b l = Along (front l.n l.text) l.initial.out l.at l.out l.b-index l.next
