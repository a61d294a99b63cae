-- `frames::backtrace::put_entry` meets its contract.
use Rattle.frames.proofs.Traces.{entry_written}
use Rattle.frames.proofs.backtrace.put_entry.Goals as goal

pub returns : goal.returns
returns c = rw c.place_of-place.ensures (entry_written _ _ _ _ _ _)
