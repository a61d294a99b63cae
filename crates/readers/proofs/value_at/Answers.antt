use borrow.Author.Rules.{rules}
use Rattle.readers.proofs.Shows.{exact_shown, not_exact}
use Rattle.model.specs.Values.{kind_at, payload_at}
use Rattle.readers.proofs.value_at.Goals as goal

pub returns-then-not-exact_value : goal.returns-then-not-exact_value
unfolding kind_at payload_at
returns-then-not-exact_value c = search (rules, not_exact)

pub returns : goal.returns
unfolding kind_at payload_at
returns c = search (rules, exact_shown)
