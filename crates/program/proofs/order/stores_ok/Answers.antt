-- `program::order::stores_ok` meets its contract.
use Rattle.laws_programs.proofs.Checks.{stores_are}
use Rattle.program.proofs.order.stores_ok.Goals as goal

pub returns : goal.returns
returns c = stores_are _ c.args.stores.now c.program_ok.ensures
