-- `console_frames::lay` meets its contract.
use Rattle.std.proofs.Common.{refl, sym, ◌∙◌}
use Rattle.console_frames.specs.Resting.{all_laid}
use Rattle.console_frames.proofs.Rests.{laid_turn, laid_end}
use Rattle.console_frames.proofs.lay.Goals as goal

pub loop-i-init : goal.loop-i-init
unfolding all_laid
loop-i-init c = refl

pub loop-i-preserved : goal.loop-i-preserved
loop-i-preserved c = rw c.frame_in.ensures (sym (laid_turn _ c.loop-i-test.true _ _) ∙ c.loop-i.invariant)

pub returns : goal.returns
returns c = sym (laid_end _ c.loop-i-test.false c.args.words.now _) ∙ c.loop-i.invariant
