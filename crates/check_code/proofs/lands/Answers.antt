-- `lands`: inside the code, at its end or past it in main, and elsewhere.
use borrow.Author.Rules.{rules}
use Rattle.check_code.proofs.Marks.{inside_the_code, to_the_end, past_the_code}
use Rattle.check_code.proofs.lands.Goals as goal

pub returns-then-j-end : goal.returns-then-j-end
returns-then-j-end c = search (rules, inside_the_code)

pub returns-then-main : goal.returns-then-main
returns-then-main c = search (rules, to_the_end)

pub returns : goal.returns
returns c = search (rules, past_the_code)
