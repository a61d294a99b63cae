-- The frames that are left are the first ones.
use Rattle.std.proofs.Common.{◌≡◌}
use Rattle.console_frames.specs.Resting.{laid, all_laid}
use Rattle.console_frames.proofs.lay.Given as goal

abbrev pub invariant-loop-i : goal.invariant-loop-i
invariant-loop-i l = laid l.i l.words l.frames ≡ all_laid l.words l.initial.frames
