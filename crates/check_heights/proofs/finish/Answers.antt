-- `finish`: by the entry of the end.
use Rattle.check_heights.proofs.Answers.{not_reached, reached_in_main, reached_elsewhere}
use borrow.Author.Rules.{rules}
use Rattle.check_heights.proofs.finish.Goals as goal

pub returns-then-last-eq0 : goal.returns-then-last-eq0
returns-then-last-eq0 c = search (rules, not_reached)

pub returns-then-main : goal.returns-then-main
returns-then-main c = search (rules, reached_in_main)

pub returns : goal.returns
returns c = search (rules, reached_elsewhere)
