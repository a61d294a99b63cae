-- `layout::reads::same_bytes` meets its contract.
use Rattle.layout.proofs.Parts.{pointwise_same}
use Rattle.std.proofs.Common.{rules}
use Rattle.layout.proofs.reads.same_bytes.Goals as goal

pub returns : goal.returns
returns c = search (rules, pointwise_same)
