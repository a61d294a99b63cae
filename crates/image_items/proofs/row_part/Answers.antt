-- `row_part`: an entry a turn.
use borrow.Author.Rules.{rules}
use Rattle.image_items.proofs.Seeking.{none_passed, all_passed, one_stops, one_passed}
use Rattle.image_items.proofs.row_part.Goals as goal

pub loop-k-init : goal.loop-k-init
loop-k-init c = search (rules, none_passed)

pub returns-in_default : goal.returns-in_default
returns-in_default c = search (rules, one_stops)

pub loop-k-preserved : goal.loop-k-preserved
loop-k-preserved c = search (rules, one_passed)

pub returns : goal.returns
returns c = search (rules, all_passed)
