-- `program::names::newest_function` meets its contract.
use Rattle.laws_programs.proofs.Searching.{newest_none, newest_here, newest_below}
use Rattle.std.proofs.Common.{rules}
use Rattle.program.proofs.names.newest_function.Goals as goal

pub returns-then-same_bytes : goal.returns-then-same_bytes
returns-then-same_bytes c = search (rules, newest_here)

pub loop-i-preserved : goal.loop-i-preserved
loop-i-preserved c = search (rules, newest_below)

pub returns : goal.returns
returns c = search (rules, newest_none)
