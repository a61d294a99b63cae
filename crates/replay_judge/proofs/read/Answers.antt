-- `replay_judge::read` meets its contract.
use Rattle.replay_judge.proofs.Answers.{too_long, loads}
use Rattle.replay_judge.proofs.read.Goals as goal

pub returns-then-image-gt16384 : goal.returns-then-image-gt16384
returns-then-image-gt16384 c = too_long _ _ c.if-image-gt16384.true

pub returns : goal.returns
returns c = loads _ _ c.if-image-gt16384.false c.load.ensures
