-- `value::words::is_header` meets its contract.
use mathlib.Core.Path.{refl}
use Rattle.model.specs.Values.{kind_at}
use Rattle.value.proofs.words.is_header.Goals as goal

pub returns : goal.returns
unfolding kind_at
returns c = refl
