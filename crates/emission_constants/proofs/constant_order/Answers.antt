-- `emission_constants::constant_order` meets its contract.
use Rattle.laws_programs.proofs.Adding.{constant_order_is}
use Rattle.std.proofs.Common.{rules}
use Rattle.emission_constants.proofs.constant_order.Goals as goal

pub returns : goal.returns
returns c = search (rules, constant_order_is)
