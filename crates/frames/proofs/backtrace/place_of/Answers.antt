-- `frames::backtrace::place_of` meets its contract.
use borrow.Author.Rules.{rules}
use Rattle.frames.proofs.Traces.{from_main, from_other, in_main, in_other}
use Rattle.frames.proofs.backtrace.place_of.Goals as goal

pub number_at-requires : goal.number_at-requires
number_at-requires c = search (rules, in_main)

pub returns-then-function-eq0 : goal.returns-then-function-eq0
returns-then-function-eq0 c = search (rules, from_main)

pub number_at-requires-2 : goal.number_at-requires-2
number_at-requires-2 c = search (rules, in_other)

pub returns : goal.returns
returns c = search (rules, from_other)
