-- `value::words::write_value` meets its contract.
use borrow.Author.Rules.{rules}
use Rattle.value.proofs.Stores.{wrote}
use Rattle.value.proofs.words.write_value.Goals as goal

pub returns : goal.returns
returns c = search (rules, wrote)
