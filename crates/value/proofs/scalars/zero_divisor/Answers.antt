-- `value::scalars::zero_divisor` meets its contract.
use Rattle.std.proofs.Common.{rules}
use mathlib.Core.Path.{ap}
use lib.Ieee as Ieee
use Rattle.model.specs.Scalars.{zero_divisor}
use Rattle.value.proofs.Floats.{zero_bits, no_division}
use Rattle.value.proofs.scalars.zero_divisor.Goals as goal

pub returns-in-Divide : goal.returns-in-Divide
unfolding zero_divisor
returns-in-Divide c = rw c.in-Divide.is (ap (Ieee.eq _) zero_bits)

pub returns-in_default : goal.returns-in_default
returns-in_default c = search (rules, no_division)
