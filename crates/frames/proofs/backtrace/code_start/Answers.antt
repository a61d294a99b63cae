-- `frames::backtrace::code_start` meets its contract.
use Rattle.frames.proofs.Traces.{code_start_lem}
use Rattle.frames.proofs.backtrace.code_start.Goals as goal

pub returns : goal.returns
returns c = code_start_lem _ _ c.second.ensures c.start_of.ensures.0
