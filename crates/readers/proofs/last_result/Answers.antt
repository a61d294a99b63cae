-- `last_result`: there is one or not.
use Rattle.std.proofs.Common.{◌≡◌, refl, ◌∙◌, Option, Some, None}
use Rattle.std.specs.Option.{ok_or}
use Rattle.model.specs.declared.Value.{Value}
use Rattle.model.specs.declared.Refusal.TheVariants as why
use Rattle.model.specs.Readers.{last_result_of, last_shown}
use Rattle.readers.proofs.last_result.Goals as goal

last_is : (last : Option Value) → ok_or last why.NoLastResult ≡ last_shown last
unfolding last_shown
last_is None = refl
last_is (Some x) = refl

pub returns : goal.returns
unfolding last_result_of
returns c = c.ok_or.ensures.value ∙ last_is _
