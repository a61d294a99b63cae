-- `program::order::constant_ok` meets its contract.
use Rattle.laws_programs.proofs.Checks.{kind_0, kind_1, kind_text, kind_none}
use Rattle.std.proofs.Common.{rules}
use Rattle.program.proofs.order.constant_ok.Goals as goal

pub returns-in-0 : goal.returns-in-0
returns-in-0 c = search (rules, kind_0)

pub returns-in-1 : goal.returns-in-1
returns-in-1 c = search (rules, kind_1)

pub returns-in-2 : goal.returns-in-2
returns-in-2 c = search (rules, kind_text)

pub returns-in_default : goal.returns-in_default
returns-in_default c = search (rules, kind_none)
