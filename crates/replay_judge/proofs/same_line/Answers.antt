-- `replay_judge::same_line` meets its contract.
use native.Mathlib.Omega.{arith}
use Rattle.replay_judge.proofs.Lines.{same_line}
use Rattle.replay_judge.proofs.same_line.Goals as goal

pub returns : goal.returns
returns c = same_line c.put_answer-n.ensures (omega arith) _ _ c.same_front.ensures
