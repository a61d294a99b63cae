use Rattle.std.proofs.Common.{◌∙◌}
use Rattle.console_script.proofs.Nexts.{word_on, words_end}
use Rattle.console_script.proofs.words_from.Goals as goal

pub loop-preserved : goal.loop-preserved
loop-preserved c = c.loop.invariant ∙ word_on _ _ _ _ c.loop-test.true c.next_of.ensures c.next_word-at-in-loop.ensures

pub returns : goal.returns
returns c = words_end _ _ _ _ c.loop-test.false c.next_word-at.ensures c.loop.invariant c.cut.ensures
