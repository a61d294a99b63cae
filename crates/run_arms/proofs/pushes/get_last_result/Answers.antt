-- `run_arms::pushes::get_last_result` meets its contract.
use Rattle.run_arms.proofs.Rules.{no_last_lem, last}
use Rattle.run_arms.proofs.Posts.{gets_last, missing, found}
use Rattle.run_arms.proofs.pushes.get_last_result.Goals as goal

pub returns-then-kind-eq7 : goal.returns-then-kind-eq7
returns-then-kind-eq7 c = λ u d. missing c.requires d (gets_last u) (λ x ar. no_last_lem _ _ c.if-kind-eq7.true)

pub returns : goal.returns
returns c =
    λ u d. found c.requires d (gets_last u) (λ x ar. last _ _ c.if-kind-eq7.false c.value_of-v.ensures)
    (c.push.ensures u d)
