-- `records::size_at`: four bytes, low byte first.
use native.Mathlib.Omega.{arith}
use mathlib.Core.Path.{◌∙◌}
use Rattle.records.specs.Reading.{size_at}
use Rattle.records.proofs.size_at.Goals as goal

pub returns-clause-value : goal.returns-clause-value
unfolding size_at
returns-clause-value c = c.from_le_bytes.ensures ∙ omega arith
