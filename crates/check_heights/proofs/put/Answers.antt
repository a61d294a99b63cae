-- `put`: where no height is known, and where one is.
use Rattle.check_heights.proofs.Tables.{put_new, put_old, put_other}
use borrow.Author.Rules.{rules}
use Rattle.check_heights.proofs.put.Goals as goal

pub returns-then-held-eq0 : goal.returns-then-held-eq0
returns-then-held-eq0 c = search (rules, put_new)

pub returns-then-held-g : goal.returns-then-held-g
returns-then-held-g c = search (rules, put_old)

pub returns : goal.returns
returns c = search (rules, put_other)
