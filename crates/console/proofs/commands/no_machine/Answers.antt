use mathlib.Core.Path.{refl}
use Rattle.console.specs.Said.{no_machine}
use Rattle.console.proofs.commands.no_machine.Goals as goal

pub returns : goal.returns
unfolding no_machine
returns c = refl
