use Rattle.console_damage.specs.Sums.{mixed_all}
use Rattle.console_script.proofs.Alongs.{along_on, along_end}
use Rattle.console_damage.proofs.mixed_words.Goals as goal

pub loop-x-preserved : goal.loop-x-preserved
unfolding mixed_all
loop-x-preserved c = along_on _ _ _ c.loop-x.invariant c.loop-x-test.true c.mixed-sum.ensures

pub returns : goal.returns
unfolding mixed_all
returns c = along_end _ _ _ c.loop-x.invariant c.loop-x-test.false
