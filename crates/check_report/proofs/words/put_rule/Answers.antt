-- `put_rule`: a sentence for each rule.
use native.Mathlib.Omega.{arith}
use Rattle.model.specs.Basics.{ascii}
use Rattle.check_report.specs.Texts.{rule_words}
use Rattle.check_report.proofs.Lines.{rule_is}
use Rattle.check_report.proofs.words.put_rule.Goals as goal

pub returns-in-Instructions : goal.returns-in-Instructions
unfolding rule_words ascii
returns-in-Instructions c = rule_is c.in-Instructions.is (omega arith) c.put_text.ensures

pub returns-in-Numbers : goal.returns-in-Numbers
unfolding rule_words ascii
returns-in-Numbers c = rule_is c.in-Numbers.is (omega arith) c.put_text-in-Numbers.ensures

pub returns-in-Calls : goal.returns-in-Calls
unfolding rule_words ascii
returns-in-Calls c = rule_is c.in-Calls.is (omega arith) c.put_text-in-Calls.ensures

pub returns-in-Counts : goal.returns-in-Counts
unfolding rule_words ascii
returns-in-Counts c = rule_is c.in-Counts.is (omega arith) c.put_text-in-Counts.ensures

pub returns-in-Jumps : goal.returns-in-Jumps
unfolding rule_words ascii
returns-in-Jumps c = rule_is c.in-Jumps.is (omega arith) c.put_text-in-Jumps.ensures

pub returns-in-Heights : goal.returns-in-Heights
unfolding rule_words ascii
returns-in-Heights c = rule_is c.in-Heights.is (omega arith) c.put_text-in-Heights.ensures
