-- `value::words::to_word` meets its contract.
use Rattle.value.proofs.Floats.{nan_word, no_nan}
use Rattle.value.proofs.words.to_word.Goals as goal

pub returns-then-x : goal.returns-then-x
returns-then-x c = nan_word _ c.if-x.true

pub float_to_bits-result : goal.float_to_bits-result
float_to_bits-result c = no_nan _ c.if-x.false
