-- `put_refused`: one line.
use mathlib.Core.Path.{◌∙◌}
use Rattle.model.specs.Basics.{ascii}
use Rattle.report_lines.proofs.Lines.{refused_is}
use Rattle.report_lines.proofs.runs.put_refused.Goals as goal

pub returns : goal.returns
unfolding ascii
returns c = refused_is _ _ (c.from.ensures ∙ c.number.ensures) c.put_line.ensures
