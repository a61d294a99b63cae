-- `layout::ordered::spot` meets its contract.
use Rattle.laws_names.proofs.Halves.{halving_up, halving_down, halving_met}
use Rattle.layout.proofs.Names.{middle_is}
use Rattle.std.proofs.Common.{rules}
use Rattle.layout.proofs.ordered.spot.Goals as goal

pub loop-low-preserved-then-before : goal.loop-low-preserved-then-before
loop-low-preserved-then-before c = search (rules, halving_up, middle_is)

pub loop-low-preserved : goal.loop-low-preserved
loop-low-preserved c = search (rules, halving_down, middle_is)

pub returns : goal.returns
returns c = search (rules, halving_met)
