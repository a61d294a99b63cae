-- `flaw_in`: what the pass came upon.
use Rattle.check_heights.proofs.Answers.{part_length, part_ready, flaw_or_none}
use borrow.Author.Rules.{rules}
use Rattle.check_heights.proofs.flaw_in.Goals as goal

pub slice_bounds-pass-end-2 : goal.slice_bounds-pass-end-2
slice_bounds-pass-end-2 c = search (rules, part_length)

pub pass-requires : goal.pass-requires
pass-requires c = search (rules, part_ready)

pub returns : goal.returns
returns c = search (rules, flaw_or_none)
