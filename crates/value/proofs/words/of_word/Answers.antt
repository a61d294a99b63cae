-- `value::words::of_word` meets its contract.
use mathlib.Core.Path.{◌∙◌, sym}
use Rattle.value.proofs.Floats.{zero_by_zero, nan_above, no_nan_below}
use Rattle.value.proofs.words.of_word.Goals as goal

pub returns-then-b-gt9218868437227405312 : goal.returns-then-b-gt9218868437227405312
returns-then-b-gt9218868437227405312 c = zero_by_zero ∙ sym (nan_above _ c.if-b-gt9218868437227405312.true)

pub float_from_bits-result : goal.float_from_bits-result
float_from_bits-result c = no_nan_below _ c.if-b-gt9218868437227405312.false
