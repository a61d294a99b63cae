-- `leads_on`: the test of the rule.
use Rattle.check_rules.specs.Rules.{leads_on}
use Rattle.check_heights.proofs.leads_on.Goals as goal

pub returns : goal.returns
unfolding leads_on
returns c = search
