-- `put_refused`: where an item breaks a rule its offset, of anything else its number.
use mathlib.Core.Path.{◌∙◌}
use borrow.Author.Rules.{rules}
use Rattle.model.specs.Basics.{ascii}
use Rattle.check_report.proofs.Lines.{broken_facts, number_facts}
use Rattle.check_report.proofs.facts.put_refused.Goals as goal

pub returns-in-BrokenImage : goal.returns-in-BrokenImage
unfolding ascii
returns-in-BrokenImage c = search (rules, broken_facts)

pub returns-in_default : goal.returns-in_default
unfolding ascii
returns-in_default c = number_facts _ c.in_default.not-BrokenImage (c.from.ensures ∙ c.number.ensures) c.put_line-in_default.ensures
