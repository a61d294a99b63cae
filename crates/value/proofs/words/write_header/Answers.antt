-- `value::words::write_header` meets its contract.
use Rattle.model.specs.Heap.{put_cell}
use Rattle.value.proofs.words.write_header.Goals as goal

pub returns : goal.returns
unfolding put_cell
returns c = record { stored = c.put_words.ensures; fine = (c.requires.1, c.requires.2, c.requires.3) }
