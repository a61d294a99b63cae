use Rattle.std.proofs.Common.{◌≡◌, ◌≤◌, max, length}
use Rattle.console_script.specs.Words.{next_of}
use Rattle.console_script.proofs.next_of.Given as goal

abbrev pub invariant-loop-i : goal.invariant-loop-i
invariant-loop-i l = (next_of l.s l.b l.at ≡ next_of l.s l.b l.i) × (l.i ≤ max l.at (length l.s))
