-- `note_image`: an image that is too long, or what it is loaded as.
use Rattle.std.proofs.Common.{arith, rules}
use Rattle.model.specs.Reports.{empty_stores}
use Rattle.noted_report.proofs.Prints.{image_too_long, loads_notable, image_noted}
use Rattle.noted_report.proofs.note_image.Goals as goal

pub returns-then-image-gt16384 : goal.returns-then-image-gt16384
returns-then-image-gt16384 c = search (rules, image_too_long)

pub note_loaded-requires : goal.note_loaded-requires
note_loaded-requires c =
    loads_notable _ _ _ _ _ _ _ _ _ (λ i. omega (arith, c.type_inv.image i)) _ _ c.load-loaded.ensures

pub returns : goal.returns
unfolding empty_stores
returns c = search (rules, image_noted)
