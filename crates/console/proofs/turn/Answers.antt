use Rattle.console_script.specs.Words.{blank}
use Rattle.console.proofs.Turning.{turned_line, frames_asked, other_asked}
use Rattle.console.proofs.turn.Goals as goal

pub returns-in_default : goal.returns-in_default
unfolding blank
returns-in_default g c = turned_line c.bytes_of-line.ensures _ _ _ _ (other_asked _ _ _ c.ask.ensures c.in_default.is c.obey.ensures)

pub returns : goal.returns
unfolding blank
returns g c = turned_line c.bytes_of-line.ensures _ _ _ _ (frames_asked _ _ _ c.ask.ensures c.in-Some.is c.front-image.ensures c.over_frames.ensures)
