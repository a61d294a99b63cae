use Rattle.std.proofs.Common.{◌≡◌, ◌-◌}
use Rattle.console_script.specs.Words.{word_at}
use Rattle.console_script.proofs.words_from.Given as goal

abbrev pub invariant-loop : goal.invariant-loop
invariant-loop l = word_at l.line l.k l.initial.at ≡ word_at l.line (l.k - l.counter) l.at
