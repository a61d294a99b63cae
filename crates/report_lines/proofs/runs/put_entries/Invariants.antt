-- `put_entries`: an entry a turn.
use Rattle.report_lines.proofs.Lines.{Traced}
use Rattle.report_lines.proofs.runs.put_entries.Given as goal

abbrev pub invariant-loop-i : goal.invariant-loop-i
invariant-loop-i l = Traced l.n l.backtrace l.initial.out l.at l.out l.i l.next
