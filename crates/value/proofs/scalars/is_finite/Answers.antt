-- `value::scalars::is_finite` meets its contract.
use Rattle.value.proofs.Floats.{infinity_bits, infinity_is_no_nan, above_the_least, not_below_the_most}
use Rattle.std.proofs.Common.{rules}
use Rattle.value.proofs.scalars.is_finite.Goals as goal

pub float_from_bits-infinity : goal.float_from_bits-infinity
float_from_bits-infinity c = search (rules, infinity_is_no_nan)

pub returns-then-x-infinity : goal.returns-then-x-infinity
returns-then-x-infinity c = rw infinity_bits (above_the_least c.args.x (rw infinity_bits at c.if-x-infinity.true))

pub returns : goal.returns
returns c = not_below_the_most c.args.x (rw infinity_bits at c.if-x-infinity.false)
