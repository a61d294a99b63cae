-- `replay_judge::judge` meets its contract.
use Rattle.replay_judge.proofs.Answers.{judged}
use Rattle.replay_judge.proofs.judge.Goals as goal

pub returns : goal.returns
returns c =
    judged _ _ _ _ c.compare-kept.ensures
    c.runs.ensures c.lists.ensures
