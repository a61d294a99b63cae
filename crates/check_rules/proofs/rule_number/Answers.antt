-- `rule_number`: by the rule.
use borrow.Author.Rules.{rules}
use Rattle.check_rules.specs.Rules.{rule_number}
use Rattle.check_rules.proofs.rule_number.Goals as goal

pub returns-in-Instructions : goal.returns-in-Instructions
unfolding rule_number
returns-in-Instructions c = search rules

pub returns-in-Numbers : goal.returns-in-Numbers
unfolding rule_number
returns-in-Numbers c = search rules

pub returns-in-Calls : goal.returns-in-Calls
unfolding rule_number
returns-in-Calls c = search rules

pub returns-in-Counts : goal.returns-in-Counts
unfolding rule_number
returns-in-Counts c = search rules

pub returns-in-Jumps : goal.returns-in-Jumps
unfolding rule_number
returns-in-Jumps c = search rules

pub returns-in-Heights : goal.returns-in-Heights
unfolding rule_number
returns-in-Heights c = search rules
