-- `replay_judge::saves` meets its contract.
use Rattle.replay_judge.proofs.Answers.{not_loaded, not_saved, saved_as}
use Rattle.replay_judge.proofs.saves.Goals as goal

pub returns-in_default : goal.returns-in_default
returns-in_default c = not_loaded _ _ _ c.in_default.is

pub returns-in_default-save : goal.returns-in_default-save
returns-in_default-save c = not_saved _ _ _ c.in-Ok.is c.save.ensures c.in_default-save.is

pub returns : goal.returns
returns c = saved_as _ _ _ c.in-Ok.is c.save.ensures c.in-Ok-save.is _ c.same_front.ensures
