-- `emission_code::add_op1` meets its contract.
use Rattle.std.proofs.Common.{rules}
use Rattle.model.specs.Emission.{add_op1_of, u16}
use Rattle.emission_code.proofs.Operands.{two_bytes}
use Rattle.emission_code.proofs.add_op1.Goals as goal

pub returns : goal.returns
unfolding add_op1_of u16
returns c = rw (two_bytes _ _ (search rules) c.to_le_bytes.ensures) at c.emit.ensures
