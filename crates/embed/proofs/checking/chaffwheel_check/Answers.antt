-- `chaffwheel_check`: the program is checked and loaded, then the first frame is laid.
use Rattle.std.proofs.Common.{ap, ◌∙◌}
use Rattle.std.proofs.Math.ListN.{set}
use Rattle.check_words.proofs.Crossing.{frame_placed, frame_laid, frame_not}
use Rattle.embed.proofs.checking.chaffwheel_check.Goals as goal

pub push_frame-requires : goal.push_frame-requires
push_frame-requires c = frame_placed _ c.check_program-n.ensures c.if-n-eq0.true

pub returns-then-n-eq0 : goal.returns-then-n-eq0
returns-then-n-eq0 c =
    frame_laid _ c.check_program-n.ensures c.if-n-eq0.true
    (c.push_frame.ensures ∙ ap (set c.args.frames.now 0) c.first_frame-f.ensures)

pub returns : goal.returns
returns c = frame_not _ c.check_program-n.ensures c.if-n-eq0.false
