-- `image_judge::may_be` meets its contract.
use Rattle.image_judge.proofs.Functions.{may_main, may_other}
use Rattle.std.proofs.Common.{rules}
use Rattle.image_judge.proofs.may_be.Goals as goal

pub returns-then-first : goal.returns-then-first
returns-then-first c = search (rules, may_main)

pub returns : goal.returns
returns c = may_other _ _ c.if-first.false
