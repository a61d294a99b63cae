-- `print_image`: an image that is too long, or what it is loaded as, run or listed.
use Rattle.std.proofs.Common.{arith, rules}
use Rattle.model.specs.Reports.{empty_stores}
use Rattle.report.proofs.Lists.{loads_listable, image_listed}
use Rattle.report.proofs.Runner.{image_run, too_long, is_run, is_listed}
use Rattle.report.proofs.print_image.Goals as goal

pub returns-then-image-gt16384 : goal.returns-then-image-gt16384
returns-then-image-gt16384 c = search (rules, too_long)

pub returns-then-runs : goal.returns-then-runs
unfolding empty_stores
returns-then-runs c = search (rules, is_run, image_run)

pub list_loaded-requires : goal.list_loaded-requires
list_loaded-requires c =
    loads_listable _ (λ i. omega (arith, c.type_inv.image i)) _ _ _ _ _ _ _ _ _ _ c.load-loaded.ensures

pub returns : goal.returns
unfolding empty_stores
returns c = search (rules, is_listed, image_listed)
