-- `replay_judge::put_loaded` meets its contract.
use Rattle.model.specs.Basics.{ascii}
use Rattle.replay_judge.proofs.Lines.{loaded_is}
use Rattle.replay_judge.proofs.put_loaded.Goals as goal

pub returns : goal.returns
unfolding ascii
returns c =
    loaded_is _ c.put_count-structs.ensures c.put_count-functions.ensures c.put_count-text.ensures
    c.put_line.ensures
