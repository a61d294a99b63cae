-- `frames::unenter`: the frames before the place are unentered.
use Rattle.std.proofs.Common.{◌≡◌}
use Rattle.frames.specs.Links.{all_unentered}
use Rattle.frames.proofs.unenter.Given as goal

abbrev pub invariant-loop-f : goal.invariant-loop-f
invariant-loop-f l = l.f-items ≡ all_unentered l.f-index l.initial.f-items
