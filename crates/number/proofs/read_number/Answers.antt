-- `read_number`: five groups at most.
use Rattle.number.proofs.Reading.{whole}
use Rattle.number.proofs.read_number.Goals as goal

pub returns : goal.returns
returns c = whole _ _ _ c.read_groups.ensures
