-- `value::words::last_in` meets its contract.
use borrow.Author.Rules.{rules}
use Rattle.value.proofs.Lasts.{last_none, last_some}
use Rattle.value.proofs.words.last_in.Goals as goal

pub returns-then-kind-eq7 : goal.returns-then-kind-eq7
returns-then-kind-eq7 c = last_none _ _ c.if-kind-eq7.true

pub returns : goal.returns
returns c = search (rules, last_some)
