-- `console_frames::keep` meets its contract.
use Rattle.std.proofs.Common.{refl, sym, ◌∙◌}
use Rattle.console_frames.specs.Resting.{all_kept}
use Rattle.console_frames.proofs.Rests.{kept_turn, kept_end}
use Rattle.console_frames.proofs.keep.Goals as goal

pub loop-i-init : goal.loop-i-init
unfolding all_kept
loop-i-init c = refl

pub loop-i-preserved : goal.loop-i-preserved
loop-i-preserved c = rw (c.put_frame.ensures, c.read_frame.ensures) (sym (kept_turn _ c.loop-i-test.true _ _) ∙ c.loop-i.invariant)

pub returns : goal.returns
returns c = sym (kept_end _ c.loop-i-test.false c.args.frames.now _) ∙ c.loop-i.invariant
