-- `runner::show` meets its contract.
use mathlib.Core.Path.{ap}
use native.Mathlib.Omega.{arith}
use Rattle.report.specs.Links.{Printed}
use Rattle.report.proofs.Prints.{inside}
use Rattle.streams.proofs.Told.{fits_so, shown_so, answered_by}
use Rattle.runner.specs.Says.{Says}
use Rattle.runner.proofs.show.Goals as goal

pub show-requires-clause-fits : goal.show-requires-clause-fits
show-requires-clause-fits g c = fits_so (λ bytes out out' n k h. omega (arith, inside _ _ h, k))

pub returns-clause-shown : goal.returns-clause-shown
unfolding Says
returns-clause-shown g c = shown_so Says (λ bytes out out' n h. ap (λ (p : Printed). p.out) h) c.show.ensures.shown

pub returns-clause-answered : goal.returns-clause-answered
unfolding Says
returns-clause-answered g c = answered_by _ _ Says (λ bytes out out' n h. ap (λ (p : Printed). p.out) h) _ _ _ _ c.show.ensures.answered
