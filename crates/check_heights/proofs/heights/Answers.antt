-- `heights`: a part of the table is enough.
use Rattle.check_heights.proofs.Answers.{part_length, part_ready, measured_or_not}
use borrow.Author.Rules.{rules}
use Rattle.check_heights.proofs.heights.Goals as goal

pub slice_bounds-pass-end-2 : goal.slice_bounds-pass-end-2
slice_bounds-pass-end-2 c = search (rules, part_length)

pub pass-requires : goal.pass-requires
pass-requires c = search (rules, part_ready)

pub returns : goal.returns
returns c = search (rules, measured_or_not)
