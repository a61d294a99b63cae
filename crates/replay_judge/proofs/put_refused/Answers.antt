-- `replay_judge::put_refused`: where an item breaks a rule its offset, of anything else its number.
use mathlib.Core.Path.{◌∙◌}
use Rattle.model.specs.Basics.{ascii}
use Rattle.replay_judge.proofs.Lines.{line_broken, line_refused}
use Rattle.replay_judge.proofs.put_refused.Goals as goal

pub returns-in-BrokenImage : goal.returns-in-BrokenImage
unfolding ascii
returns-in-BrokenImage c = line_broken _ c.in-BrokenImage.is c.put_line.ensures

pub returns-in_default : goal.returns-in_default
unfolding ascii
returns-in_default c = line_refused _ c.in_default.not-BrokenImage (c.from.ensures ∙ c.number.ensures) c.put_line-in_default.ensures
