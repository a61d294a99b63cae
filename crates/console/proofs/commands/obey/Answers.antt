use Rattle.console.proofs.Obeys.{emits, pokes}
use Rattle.console.proofs.commands.obey.Goals as goal

pub returns-in-Emit : goal.returns-in-Emit
returns-in-Emit g c = emits _ _ c.word.ensures c.group_of-group.ensures _ c.in-Emit.is c.emit-e.ensures c.say_emitted.ensures

pub returns-in-Poke : goal.returns-in-Poke
returns-in-Poke g c = pokes _ _ c.word.ensures c.group_of-group.ensures _ c.in-Poke.is c.poke-good.ensures.1 c.poke-good.ensures.2 c.poke-good.ensures.3
