-- `value::words::read_header` meets its contract.
use Rattle.model.specs.Values.{payload_at}
use Rattle.model.specs.Heap.{header_of}
use Rattle.value.proofs.words.read_header.Goals as goal

pub returns : goal.returns
unfolding payload_at header_of
returns c = search
