-- `play`: a line a turn, each one of those that are left.
use Rattle.console_script.proofs.Weights.{fewer_left}
use Rattle.console.proofs.Turning.{one_line, all_lines}
use Rattle.console.proofs.play.Goals as goal

pub loop-next-preserved : goal.loop-next-preserved
loop-next-preserved g c = one_line c.loop-next.invariant c.in-Some.is c.turn-m.ensures c.next_line-next.ensures

pub loop-next-smaller : goal.loop-next-smaller
loop-next-smaller g c = rw (c.in-Some.is, c.next_line-next.ensures) (fewer_left _ _)

pub returns : goal.returns
returns g c = rw (← c.first_line.ensures, ← c.no_machine-m.ensures) (all_lines c.loop-next.invariant c.in_default.is)
