use Rattle.std.proofs.Common.{◌≡◌, ◌≤◌, max, length}
use Rattle.console_script.specs.Words.{next_word}
use Rattle.console_script.proofs.next_word.Given as goal

abbrev pub invariant-loop-i : goal.invariant-loop-i
invariant-loop-i l = (next_word l.s l.at ≡ next_word l.s l.i) × (l.i ≤ max l.at (length l.s))
