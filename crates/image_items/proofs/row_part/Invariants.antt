-- `row_part`: an entry a turn.
use Rattle.image_items.proofs.Seeking.{Passing}
use Rattle.image_items.proofs.row_part.Given as goal

abbrev pub invariant-loop-k : goal.invariant-loop-k
invariant-loop-k l = Passing l.w l.image l.o l.n l.at l.k l.next
