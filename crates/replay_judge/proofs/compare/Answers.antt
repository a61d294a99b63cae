-- `replay_judge::compare` meets its contract.
use Rattle.layout.specs.Lent.{program_lent}
use Rattle.replay_judge.proofs.Answers.{all}
use Rattle.replay_judge.proofs.compare.Goals as goal

pub returns : goal.returns
unfolding program_lent
returns c = all _ _ _ _ c.read-answer.ensures c.same_line-loads.ensures c.saves-saving.ensures
