-- `layout::writes::put_places` meets its contract.
use lib.ListN.{length-replicate}
use Rattle.layout.proofs.Writing.{overwritten}
use Rattle.std.proofs.Common.{rules}
use Rattle.layout.proofs.writes.put_places.Goals as goal

pub returns : goal.returns
returns c = search (rules, overwritten, length-replicate)
