-- `cells::exact_cells` meets its contract.
use Rattle.std.proofs.Common.{arith, rules, ◌≡◌, true, false, refl}
use Rattle.std.proofs.lemmas.Iterator.{cases_from_all, YieldsList-from_range}
use Rattle.cells.proofs.Scans.{exact_at, exact_judged}
use Rattle.cells.proofs.exact_cells.Goals as goal

pub returns : goal.returns
returns c =
    exact_judged c.args.cells.now c.args.used _ (
    cases_from_all _ _ _ (λ i. exact_at c.args.cells.now i ≡ true) (λ i. exact_at c.args.cells.now i ≡ false) c.all.ensures.ran
    (YieldsList-from_range 0 c.args.used c.args.used refl (omega arith)) (λ x q k. search rules) (λ x q k. search rules)
    )
