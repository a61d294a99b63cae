-- `recheck::ends_of` meets its contract.
use Rattle.recheck.proofs.Parts.{ends_read}
use Rattle.recheck.proofs.ends_of.Goals as goal

pub returns-clause-value : goal.returns-clause-value
returns-clause-value c = ends_read _ c.size_at-image.ensures.value c.size_at.ensures.value
