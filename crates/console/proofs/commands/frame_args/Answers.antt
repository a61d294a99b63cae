use Rattle.console_damage.specs.Damage.{frame_args}
use Rattle.console.proofs.commands.frame_args.Goals as goal

pub returns : goal.returns
unfolding frame_args
returns c = c.read_args.ensures
