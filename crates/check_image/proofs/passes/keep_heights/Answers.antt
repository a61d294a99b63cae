-- `keep_heights`: rule 6.
use borrow.Author.Rules.{rules}
use Rattle.check_image.proofs.Findings.{can_be_measured, heights_stop, nothing_broken}
use Rattle.check_image.proofs.passes.keep_heights.Goals as goal

pub measure-uneven-requires : goal.measure-uneven-requires
measure-uneven-requires c = (search can_be_measured, search rules)

pub returns-then-uneven-z : goal.returns-then-uneven-z
returns-then-uneven-z c = search (rules, heights_stop)

pub returns : goal.returns
returns c = search (rules, nothing_broken)
