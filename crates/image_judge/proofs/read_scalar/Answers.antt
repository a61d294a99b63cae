-- `image_judge::read_scalar` meets its contract.
use borrow.Author.Rules.{rules}
use Rattle.image_judge.proofs.Items.{scalar_short, scalar_read}
use Rattle.image_judge.proofs.read_scalar.Goals as goal

pub returns-then-image-at-lt8 : goal.returns-then-image-at-lt8
returns-then-image-at-lt8 c = scalar_short _ _ c.requires c.if-image-at-lt8.true

pub returns : goal.returns
returns c = search (rules, scalar_read)
