-- `emission_structs::struct_order` meets its contract.
use Rattle.laws_programs.proofs.Adding.{struct_order_is, struct_order_not}
use Rattle.std.proofs.Common.{rules}
use Rattle.emission_structs.proofs.struct_order.Goals as goal

pub returns-then-text_ok : goal.returns-then-text_ok
returns-then-text_ok c = search (rules, struct_order_is)

pub returns-else-text_ok : goal.returns-else-text_ok
returns-else-text_ok c = search (rules, struct_order_not)
