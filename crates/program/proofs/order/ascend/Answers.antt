-- `program::order::ascend` meets its contract.
use Rattle.std.proofs.Common.{rules}
use Rattle.laws_programs.proofs.Checks.{ascending, ascends_here}
use Rattle.laws_programs.proofs.Every.{all_is}
use Rattle.program.proofs.order.ascend.Goals as goal

pub returns : goal.returns
returns c =
    all_is _ (ascending c.args.n c.args.structs.now c.args.text.now) c.all.ensures.ran (search rules)
    (λ x q k. search (rules, ascends_here))
    (λ x q k. search (rules, ascends_here))
