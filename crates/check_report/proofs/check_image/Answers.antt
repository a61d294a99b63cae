-- `check_image`: what is answered can be told.
use borrow.Author.Rules.{rules}
use Rattle.check_report.proofs.Answered.{tellable, said_there, said_fits, image_checked}
use Rattle.check_report.proofs.check_image.Goals as goal

pub slice_bounds-print_checked-end : goal.slice_bounds-print_checked-end
slice_bounds-print_checked-end c = search (rules, said_there)

pub print_checked-requires : goal.print_checked-requires
print_checked-requires c = (search tellable, search said_fits)

pub returns : goal.returns
returns c = search (rules, image_checked)
