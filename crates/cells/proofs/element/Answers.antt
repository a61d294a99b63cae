-- `cells::element` meets its contract.
use mathlib.Core.Path.{◌∙◌}
use Rattle.cells.proofs.Builds.{element_up, element_down}
use Rattle.cells.proofs.element.Goals as goal

pub returns-then-list : goal.returns-then-list
returns-then-list c = c.read_value.ensures ∙ element_up _ _ _ _ c.requires.1 _ c.requires.0 c.if-list.true

pub returns-else-list : goal.returns-else-list
returns-else-list c = c.read_value-else-list.ensures ∙ element_down _ _ _ _ c.requires.1 _ c.requires.0 c.if-list.false
