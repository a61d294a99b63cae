-- `run_arms::pushes::load_constant` meets its contract.
use Rattle.run_arms.proofs.Rules.{no_constant, constant}
use Rattle.run_arms.proofs.Posts.{loads, missing, found}
use Rattle.run_arms.proofs.pushes.load_constant.Goals as goal

pub returns-then-k-a : goal.returns-then-k-a
returns-then-k-a c = λ u d e. missing c.requires.0 d (loads u _) (λ x ar. no_constant _ _ _ e c.if-k-a.true)

pub returns : goal.returns
returns c =
    λ u d e. found c.requires.0 d (loads u _)
    (λ x ar. constant _ _ _ e c.if-k-a.false c.read_value-v.ensures) (c.push.ensures u d)
