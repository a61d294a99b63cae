use Rattle.console.proofs.say.say_hex.Given as goal

abbrev pub decreases-loop-u : goal.decreases-loop-u
decreases-loop-u g l = l.u
