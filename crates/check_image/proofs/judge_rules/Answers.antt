-- `judge_rules`: the rules over two tables of its own.
use mathlib.Core.Path.{refl, ◌∙◌}
use Rattle.check_image.proofs.Entries.{zeros, heights_there, as_many_taken, rules_kept}
use Rattle.check_image.proofs.judge_rules.Goals as goal

pub slice_bounds-greatest-end : goal.slice_bounds-greatest-end
slice_bounds-greatest-end c = heights_there c.requires.0 _ (c.keep_rules.auto.greatest ∙ zeros _ refl)

pub slice_bounds-put_heights-end : goal.slice_bounds-put_heights-end
slice_bounds-put_heights-end c = as_many_taken c.requires.0 _ (c.keep_rules.auto.greatest ∙ zeros _ refl)

pub returns : goal.returns
returns c = rules_kept c.requires.0 _ (c.keep_rules.auto.greatest ∙ zeros _ refl) c.in_ok-keep_rules.ensures c.put_heights.ensures
