-- `keep_code`: rules 1, 2 and 3, one after the other.
use borrow.Author.Rules.{rules}
use Rattle.check_rules.specs.Rules.{rule_number}
use Rattle.check_image.proofs.Judged.{whole_tells, numbers_tell, calls_tell}
use Rattle.check_image.proofs.Findings.{begins}
use Rattle.check_image.proofs.passes.keep_code.Goals as goal

pub keep_rule-requires-clause-earlier : goal.keep_rule-requires-clause-earlier
unfolding rule_number
keep_rule-requires-clause-earlier c = begins _ _ c.requires.0

pub keep_rule-requires-clause-meaning : goal.keep_rule-requires-clause-meaning
keep_rule-requires-clause-meaning c = λ main code marks b after k. whole_tells _ _ _ _ (search rules)

pub keep_rule-requires-2-clause-earlier : goal.keep_rule-requires-2-clause-earlier
unfolding rule_number
keep_rule-requires-2-clause-earlier c = c.in_ok-keep_rule.ensures

pub keep_rule-requires-2-clause-meaning : goal.keep_rule-requires-2-clause-meaning
keep_rule-requires-2-clause-meaning c = λ main code marks b after k. numbers_tell _ _ _ _ (search rules)

pub keep_rule-requires-3-clause-earlier : goal.keep_rule-requires-3-clause-earlier
unfolding rule_number
keep_rule-requires-3-clause-earlier c = c.in_ok-keep_rule-2.ensures

pub keep_rule-requires-3-clause-meaning : goal.keep_rule-requires-3-clause-meaning
keep_rule-requires-3-clause-meaning c = λ main code marks b after k. calls_tell _ _ _ _ (search rules)

pub returns : goal.returns
unfolding rule_number
returns c = c.keep_rule-3.ensures
