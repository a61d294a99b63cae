-- `send`: to be sent, or not.
use Rattle.check_heights.proofs.Tables.{is_sent, not_sent}
use borrow.Author.Rules.{rules}
use Rattle.check_heights.proofs.send.Goals as goal

pub put-requires : goal.put-requires
put-requires c = (c.requires.room c.if-go.true, c.requires.low)

pub returns-then-go : goal.returns-then-go
returns-then-go c = search (rules, is_sent)

pub returns : goal.returns
returns c = search (rules, not_sent)
