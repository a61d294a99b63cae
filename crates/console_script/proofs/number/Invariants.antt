use Rattle.std.proofs.Common.{◌≡◌, Some, drop}
use Rattle.console_script.specs.Words.{along, with_digit, number_of}
use Rattle.console_script.proofs.number.Given as goal

abbrev pub invariant-loop-b : goal.invariant-loop-b
invariant-loop-b l = number_of l.base l.w ≡ along (with_digit l.base) (Some l.n) (drop l.b-index l.w)
