-- `image_judge::read_flag` meets its contract.
use borrow.Author.Rules.{rules}
use Rattle.image_judge.proofs.Items.{flag_none, flag_bad, flag_read}
use Rattle.image_judge.proofs.read_flag.Goals as goal

pub returns-then-image-at : goal.returns-then-image-at
returns-then-image-at c = flag_none _ _ c.requires c.if-image-at.true

pub returns-then-word-gt1 : goal.returns-then-word-gt1
returns-then-word-gt1 c = search (rules, flag_bad)

pub returns : goal.returns
returns c = search (rules, flag_read)
