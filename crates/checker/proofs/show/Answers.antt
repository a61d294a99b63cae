-- `checker::show` meets its contract.
use native.Mathlib.Omega.{arith}
use Rattle.report_lines.proofs.Prints.{inside}
use Rattle.streams.proofs.Told.{fits_so, shown_so, answered_by}
use Rattle.checker.specs.Says.{Says}
use Rattle.checker.proofs.show.Goals as goal

pub show-requires-clause-fits : goal.show-requires-clause-fits
show-requires-clause-fits g c = fits_so (λ bytes out out' n k h. omega (arith, inside _ _ h.text, k))

pub returns-clause-shown : goal.returns-clause-shown
returns-clause-shown g c = shown_so Says (λ bytes out out' n h. record { printed = n; checks = h }) c.show.ensures.shown

pub returns-clause-answered : goal.returns-clause-answered
returns-clause-answered g c = answered_by _ _ Says (λ bytes out out' n h. record { printed = n; checks = h }) _ _ _ _ c.show.ensures.answered
