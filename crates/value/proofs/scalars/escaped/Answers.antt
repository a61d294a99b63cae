-- `value::scalars::escaped` meets its contract.
use Rattle.value.proofs.scalars.escaped.Goals as goal

pub returns : goal.returns
returns c = rw (c.is_finite-first.ensures, c.is_finite-second.ensures, c.is_finite-third.ensures)
