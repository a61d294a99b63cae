-- `frames::backtrace::inside_ok` meets its contract.
use borrow.Author.Rules.{rules}
use native.Mathlib.Omega.{arith}
use Rattle.frames.proofs.Traces.{judged, no_function}
use Rattle.frames.proofs.backtrace.inside_ok.Goals as goal

pub returns-then-function-functions : goal.returns-then-function-functions
returns-then-function-functions c = no_function _ _ (omega arith)

pub returns : goal.returns
returns c = search (rules, judged)
