use Rattle.std.proofs.Common.{◌≡◌, drop}
use Rattle.console_damage.specs.Sums.{mixed_all}
use Rattle.console_damage.proofs.mixed_bytes.Given as goal

abbrev pub invariant-loop-x : goal.invariant-loop-x
invariant-loop-x l = mixed_all l.h l.s ≡ mixed_all l.sum (drop l.x-index l.s)
