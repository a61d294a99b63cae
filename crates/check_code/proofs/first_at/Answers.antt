-- `first_at`: behind the opcode.
use borrow.Author.Rules.{rules}
use Rattle.check_code.proofs.Instructions.{first_is}
use Rattle.check_code.proofs.first_at.Goals as goal

pub returns : goal.returns
returns c = search (rules, first_is)
