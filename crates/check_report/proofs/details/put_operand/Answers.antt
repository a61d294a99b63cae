-- `put_operand`: behind rule 1.
use borrow.Author.Rules.{rules}
use Rattle.model.specs.Basics.{ascii}
use Rattle.check_report.proofs.Saying.{operand_none, operand_put}
use Rattle.check_report.proofs.details.put_operand.Goals as goal

pub returns-then-rule_number-eq1 : goal.returns-then-rule_number-eq1
returns-then-rule_number-eq1 c = search (rules, operand_none)

pub returns : goal.returns
unfolding ascii
returns c = search (rules, operand_put)
