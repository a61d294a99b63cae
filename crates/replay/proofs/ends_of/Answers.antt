-- `replay::ends_of` meets its contract.
use Rattle.replay.proofs.Parts.{ends_read}
use Rattle.replay.proofs.ends_of.Goals as goal

pub returns-clause-value : goal.returns-clause-value
returns-clause-value c = ends_read _ c.size_at-image.ensures.value c.size_at.ensures.value c.size_at-2.ensures.value c.size_at-3.ensures.value
