-- The frames that are left are the first ones.
use Rattle.std.proofs.Common.{◌≡◌}
use Rattle.console_frames.specs.Resting.{kept, all_kept}
use Rattle.console_frames.proofs.keep.Given as goal

abbrev pub invariant-loop-i : goal.invariant-loop-i
invariant-loop-i l = kept l.i l.frames l.words ≡ all_kept l.frames l.initial.words
