-- `replay_judge::put_answer` meets its contract.
use Rattle.replay_judge.proofs.Lines.{line_done}
use Rattle.replay_judge.proofs.put_answer.Goals as goal

pub returns-in-Ok : goal.returns-in-Ok
returns-in-Ok c = line_done c.in-Ok.is c.put_loaded.ensures
