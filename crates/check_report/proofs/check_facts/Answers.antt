-- `check_facts`: what is answered can be told, and its facts were put.
use borrow.Author.Rules.{rules}
use Rattle.check_report.proofs.Answered.{tellable, facts_put}
use Rattle.check_report.proofs.check_facts.Goals as goal

pub put_facts-requires : goal.put_facts-requires
put_facts-requires c = search (rules, tellable)

pub returns : goal.returns
returns c = search (rules, facts_put)
