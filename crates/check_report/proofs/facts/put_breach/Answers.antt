-- `put_breach`: the rule, and a line with the function.
use borrow.Author.Rules.{rules}
use Rattle.model.specs.Basics.{ascii}
use Rattle.check_report.proofs.Lines.{breach_is}
use Rattle.check_report.proofs.facts.put_breach.Goals as goal

pub returns : goal.returns
unfolding ascii
returns c = search (rules, breach_is)
