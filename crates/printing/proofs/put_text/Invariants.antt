-- `put_text`: a byte a turn.
use Rattle.printing.proofs.Puts.{Along}
use Rattle.printing.proofs.put_text.Given as goal

abbrev pub invariant-loop-b : goal.invariant-loop-b
invariant-loop-b l = Along l.text l.initial.out l.at l.out l.b-index l.next
