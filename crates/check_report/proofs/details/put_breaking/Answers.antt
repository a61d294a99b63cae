-- `put_breaking`: the image, loaded in empty stores.
use borrow.Author.Rules.{rules}
use Rattle.model.specs.Reports.{empty_stores}
use Rattle.check_report.proofs.Saying.{image_put}
use Rattle.check_report.proofs.details.put_breaking.Goals as goal

pub returns : goal.returns
unfolding empty_stores
returns c = search (rules, image_put)
