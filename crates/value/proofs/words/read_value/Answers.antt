-- `value::words::read_value` meets its contract.
use Rattle.model.specs.Values.{kind_at, payload_at, value_at}
use Rattle.value.proofs.words.read_value.Goals as goal

pub returns : goal.returns
unfolding kind_at payload_at value_at
returns c = c.value_of.ensures
