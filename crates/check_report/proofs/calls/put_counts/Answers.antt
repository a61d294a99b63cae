-- `put_counts`: two Calls, where the rule is that of counts.
use mathlib.Core.Path.{◌≡◌}
use Rattle.check_places.specs.Calls.{count_told}
use borrow.Author.Rules.{rules}
use Rattle.check_report.proofs.Calling.{no_counts, counted, two_counts}
use Rattle.check_report.proofs.calls.put_counts.Goals as goal

pub returns-then-rule_number-eq4 : goal.returns-then-rule_number-eq4
returns-then-rule_number-eq4 c =
    let taken : c.map_or-taken.result ≡ count_told c.first_called-first.result = counted _ _ (λ d p. search rules) c.map_or-taken.ensures in
    search (rules, two_counts)

pub returns : goal.returns
returns c = search (rules, no_counts)
