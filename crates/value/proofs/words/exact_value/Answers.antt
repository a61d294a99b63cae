-- `value::words::exact_value` meets its contract.
use borrow.Author.Rules.{rules}
use Rattle.value.proofs.Coding.{exact_same, exact_differs}
use Rattle.value.proofs.words.exact_value.Goals as goal

pub returns-then-kind-kind_of : goal.returns-then-kind-kind_of
returns-then-kind-kind_of c = search (rules, exact_same)

pub returns-else-kind-kind_of : goal.returns-else-kind-kind_of
returns-else-kind-kind_of c = search (rules, exact_differs)
