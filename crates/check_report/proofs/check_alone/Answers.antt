-- `check_alone`: an image that is too long, or checked in empty stores.
use borrow.Author.Rules.{rules}
use Rattle.model.specs.Reports.{empty_stores}
use Rattle.check_report.specs.Links.{too_long, checked}
use Rattle.check_report.proofs.check_alone.Goals as goal

pub returns-then-image-gt16384 : goal.returns-then-image-gt16384
returns-then-image-gt16384 c = search (rules, too_long)

pub returns : goal.returns
unfolding empty_stores
returns c = search (rules, checked)
