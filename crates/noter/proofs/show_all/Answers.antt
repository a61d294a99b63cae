-- `show_all`: every text fits.
use borrow.Author.Rules.{rules}
use native.Mathlib.Omega.{arith}
use Rattle.noter.proofs.Whole.{nothing_lost}
use Rattle.noter.proofs.show_all.Goals as goal

pub returns : goal.returns
returns g c = nothing_lost _ _ _ c.show.ensures.shown (λ i. omega (arith, c.type_inv.image i)) (search rules)
