-- `emission_code::add_op` meets its contract.
use Rattle.model.specs.Emission.{add_op_of}
use Rattle.emission_code.proofs.add_op.Goals as goal

pub returns : goal.returns
unfolding add_op_of
returns c = c.emit.ensures
