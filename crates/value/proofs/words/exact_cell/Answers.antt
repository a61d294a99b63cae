-- `value::words::exact_cell` meets its contract.
use borrow.Author.Rules.{rules}
use Rattle.model.specs.Values.{kind_at, payload_at}
use Rattle.value.proofs.Coding.{exact_header, exact_item}
use Rattle.value.proofs.words.exact_cell.Goals as goal

pub returns-then-is_header : goal.returns-then-is_header
returns-then-is_header c = search (rules, exact_header)

pub returns : goal.returns
unfolding kind_at payload_at
returns c = search (rules, exact_item)
