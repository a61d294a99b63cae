-- `layout::ordered::stands` meets its contract.
use Rattle.layout.proofs.Names.{stands_is}
use Rattle.std.proofs.Common.{rules}
use Rattle.layout.proofs.ordered.stands.Goals as goal

pub returns-then-at-n : goal.returns-then-at-n
returns-then-at-n c = search (rules, stands_is)
