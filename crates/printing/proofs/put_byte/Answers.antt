-- `put_byte`: a store past the end changes nothing.
use borrow.Author.Rules.{rules}
use Rattle.printing.proofs.Puts.{byte_inside, byte_past}
use Rattle.printing.proofs.put_byte.Goals as goal

pub returns : goal.returns
returns c = search (rules, byte_inside, byte_past)
