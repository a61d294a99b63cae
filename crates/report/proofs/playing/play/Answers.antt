-- `play`: the frames are a local array, lent to `one_run`.
use Rattle.report.proofs.playing.play.Goals as goal

pub returns : goal.returns
returns c = record { frames = c.one_run.new.frames; run = c.one_run.ensures }
