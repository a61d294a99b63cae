-- `is_carried`: an arm for each kind of opcode.
use borrow.Author.Rules.{rules}
use Rattle.check_code.proofs.Tests.{carried, not_carried, unknown}
use Rattle.check_code.proofs.is_carried.Goals as goal

pub returns-in-Carried : goal.returns-in-Carried
returns-in-Carried c = search (rules, carried)

pub returns-in-NotCarried : goal.returns-in-NotCarried
returns-in-NotCarried c = search (rules, not_carried)

pub returns-in-Unknown : goal.returns-in-Unknown
returns-in-Unknown c = search (rules, unknown)
